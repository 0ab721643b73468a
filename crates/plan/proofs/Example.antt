-- A plan of one splice is written: the theorems about plans that were written are not empty.
use mathlib.Core.Path.{◌≡◌, refl}
use mathlib.Core.Bool.{Bool, true, false, cond, false≢true}
use mathlib.Core.List.{List, [], ◌∷◌}
use Prim.Native.Nat.{ℕ, zero, suc}
use native.Mathlib.Omega.{arith}
use borrow.Author.Tests.{ltb-true}
use lib.Dec.{ltb}
use Rattle.plan_form.specs.Entries.{Bytes}
use Rattle.plan_form.specs.Theorems.{one_plan, PlanExists}
use Rattle.plan_form.proofs.Example.{plan-exists}
use Rattle.plan.specs.Calls.{written}
use Rattle.plan.specs.Theorems.{ListBytes, OneWritten}

-- that a list is one of bytes, as a test
unfoldable are_bytes : List ℕ → Bool
are_bytes [] = true
are_bytes (x ∷ xs) = cond (ltb x 256) (are_bytes xs) false

both_hold : (b c : Bool) → cond b c false ≡ true → (b ≡ true) × (c ≡ true)
both_hold true c e = (refl, e)
both_hold false c e = absurd (false≢true e)

bytes : (xs : List ℕ) → are_bytes xs ≡ true → Bytes xs
unfolding are_bytes
bytes [] e i = omega arith
bytes (x ∷ xs) e zero = ltb-true x 256 (both_hold (ltb x 256) (are_bytes xs) e).0
bytes (x ∷ xs) e (suc i) = bytes xs (both_hold (ltb x 256) (are_bytes xs) e).1 i

one-bytes : ListBytes one_plan
unfolding one_plan are_bytes
one-bytes = record { closures = bytes one_plan.closures refl; fibres = bytes one_plan.fibres refl; splices = bytes one_plan.splices refl }

pub one_written : OneWritten
unfolding OneWritten one_plan PlanExists
one_written =
    (one-bytes, λ before size. written (record { closures = refl; fibres = refl; splices = refl; file = size }) plan-exists refl)
