-- What holds of the form of plans, as theorems about the definitions; proofs/OnePlace.antt and proofs/Example.antt have the
-- proofs.
use Rattle.std.specs.Prelude.{◌≡◌, [], ◌∷◌, ℕ}
use Rattle.plan_form.specs.Form.{Plan, plan_end, Broken, IsPlan, Lists, lists, counts_of, plan_of}

-- "the first": a plan is broken at one byte
unfoldable pub OneBroken : Type 0
OneBroken = (P : Plan) (len a b : ℕ) → Broken P len a → Broken P len b → a ≡ b

-- and nowhere where it is in the form
unfoldable pub BrokenOrPlan : Type 0
BrokenOrPlan = (P : Plan) (len a : ℕ) → IsPlan P len → Broken P len a → ⊥

-- There is a plan: closure 7, its fibres 1 and 288, and the splice of the two.
unfoldable pub one_plan : Lists
one_plan =
    lists (7 ∷ 0 ∷ []) (7 ∷ 0 ∷ 1 ∷ 0 ∷ 7 ∷ 0 ∷ 32 ∷ 1 ∷ []) (0 ∷ 0 ∷ 0 ∷ 0 ∷ 1 ∷ 0 ∷ 0 ∷ 0 ∷ [])

unfoldable pub PlanExists : Type 0
PlanExists = IsPlan (plan_of one_plan) (plan_end (counts_of one_plan))
