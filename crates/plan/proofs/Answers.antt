-- From what the calls below answer to the outcomes of the calls on plans.
use Rattle.std.specs.Prelude.{Result, Ok, Err}
use mathlib.Core.Path.{◌≡◌, refl, sym, ap, subst, ◌∙◌}
use mathlib.Core.List.{List}
use Prim.Native.Nat.{ℕ, ◌+◌, ◌*◌, ◌%◌, ◌≤◌}
use native.Mathlib.Omega.{arith}
use lib.ListN.{length}
use Rattle.answer.specs.declared.Refusal.{Refusal}
use Rattle.answer.specs.declared.Refusal.TheVariants.{Plain, Entry}
use Rattle.answer.specs.declared.Fault.TheVariants.{SliceLength}
use Rattle.answer.specs.Refusals.{fault_number}
use Rattle.answer.specs.Values.{Value, gives, refusal, value_of}
use Rattle.answer.proofs.Values.{gives-injective, refusal-gives, refusal-injective}
use Rattle.plan_form.specs.declared.PlanCounts.{PlanCounts}
use Rattle.plan_form.specs.Form.{Plan, plan_end, Broken, IsPlan, FormOutcome, formed, broken, plan_with, plan_in, Lists, lists, counts_of, plan_of, plan_bytes, section, lists_in}
use Rattle.plan.specs.Calls.{Exact, WritePlanOutcome, write_inexact, write_broken, written, Room, begun, lists_begun, ReadPlanOutcome, read_broken, read_short, read_shown}
use Rattle.plan.proofs.Sections.{closures-size, fibres-size, splices-size}

-- ---- what judges a plan

module _ {A : Type 0} {P : Plan} {len : ℕ} {a : A} where
  form-refused : {v : Value A} → FormOutcome P len a v → (f : Refusal) → v ≡ refusal f → (at : ℕ) × (f ≡ Entry at) × Broken P len at
  unfolding refusal
  form-refused (formed plan) f e = absurd (refusal-gives f a (sym e))
  form-refused (broken at b) f e = (at, sym (refusal-injective (Entry at) f e), b)

  form-given : {v : Value A} → FormOutcome P len a v → (b : A) → v ≡ gives b → IsPlan P len × (b ≡ a)
  form-given (formed plan) b e = (plan, sym (gives-injective a b e))
  form-given (broken at _) b e = let z : ◌≡◌ {A = ℕ} 0 1 = cc in absurd (omega arith)

-- ---- the writer

module _ (cs fs ss before : List ℕ) where
  -- the lengths that the writer asks for
  abbrev Fitting : Type 0
  Fitting = (length cs % 2 ≡ 0) × (length fs % 4 ≡ 0) × (length ss % 8 ≡ 0) × (length before ≡ 12 + length cs + length fs + length ss)

  fitting-exact : Fitting → Exact (lists cs fs ss) (length before)
  fitting-exact (c, f, s, o) = record { closures = c; fibres = f; splices = s; file = o }

  pub write-unfit : (Fitting → ⊥) → WritePlanOutcome (lists cs fs ss) before before (value_of (Err (Plain SliceLength)))
  unfolding value_of refusal fault_number
  write-unfit bad = write_inexact (λ exact. bad (exact.closures, exact.fibres, exact.splices, exact.file)) refl

  module _ (r : Result Unit Refusal) (o : FormOutcome (plan_of (lists cs fs ss)) (plan_end (counts_of (lists cs fs ss))) tt (value_of r)) (fit : Fitting) where
    pub write_refused : (f : Refusal) → r ≡ Err f → WritePlanOutcome (lists cs fs ss) before before (value_of (Err f))
    unfolding value_of refusal
    write_refused f e = let (at, is, b) = form-refused o f (ap value_of e) in rw is (write_broken (fitting-exact fit) at b refl)

    pub write-told : r ≡ Ok tt → (after : List ℕ) → after ≡ plan_bytes (lists cs fs ss) → WritePlanOutcome (lists cs fs ss) before after (value_of (Ok tt))
    unfolding value_of
    write-told e after is = written (fitting-exact fit) (form-given o tt (ap value_of e)).0 is

-- ---- the reader

module _ (f : List ℕ) (r : Result PlanCounts Refusal) (o : FormOutcome (plan_in f) (length f) (plan_in f).counts (value_of r)) where
  pub read_refused : (g : Refusal) → r ≡ Err g → (l : Lists) → ReadPlanOutcome f l l (value_of (Err g))
  unfolding value_of refusal
  read_refused g e l = let (at, is, b) = form-refused o g (ap value_of e) in rw is (read_broken at b refl)

  module _ (n : PlanCounts) (e : r ≡ Ok n) where
    counted : IsPlan (plan_in f) (length f) × (n ≡ (plan_in f).counts)
    unfolding value_of
    counted = form-given o n (ap value_of e)

    pub counted-end : plan_end n ≡ length f
    counted-end = subst (λ (m : PlanCounts). plan_end m ≡ length f) (sym counted.1) counted.0.ends

    -- the sections have the lengths that their counts say
    section-lengths : (length (lists_in f).closures ≡ 2 * n.closures) × (length (lists_in f).fibres ≡ 4 * n.fibres) × (length (lists_in f).splices ≡ 8 * n.splices)
    unfolding plan_in plan_with
    section-lengths =
        let same = counted.1 in
        let ends = counted.0.ends in (
          closures-size f ends ∙ ap (λ (m : PlanCounts). 2 * m.closures) (sym same),
          fibres-size f ends ∙ ap (λ (m : PlanCounts). 4 * m.fibres) (sym same),
          splices-size f ends ∙ ap (λ (m : PlanCounts). 8 * m.splices) (sym same),
        )

    module _ (cs fs ss : List ℕ) where
      abbrev Enough : Type 0
      Enough = (2 * n.closures ≤ length cs) × (4 * n.fibres ≤ length fs) × (8 * n.splices ≤ length ss)

      pub read-unfit : (Enough → ⊥) → ReadPlanOutcome f (lists cs fs ss) (lists cs fs ss) (value_of (Err (Plain SliceLength)))
      unfolding value_of refusal fault_number
      read-unfit bad =
          let (c, g, s) = section-lengths in
          read_short counted.0 (λ room. bad (omega (arith, room.closures), omega (arith, room.fibres), omega (arith, room.splices))) refl

      pub read_told : Enough → (cs' fs' ss' : List ℕ) → cs' ≡ begun (section f 4 (2 * n.closures)) cs
          → fs' ≡ begun (section f (8 + 2 * n.closures) (4 * n.fibres)) fs
          → ss' ≡ begun (section f (12 + 2 * n.closures + 4 * n.fibres) (8 * n.splices)) ss
          → ReadPlanOutcome f (lists cs fs ss) (lists cs' fs' ss') (value_of (Ok n))
      unfolding value_of lists_in lists_begun plan_in plan_with
      read_told enough cs' fs' ss' ec ef es =
          let (c, g, s) = section-lengths in
          let room : Room (lists_in f) (lists cs fs ss) = record { closures = omega arith; fibres = omega arith; splices = omega arith } in
          rw (ec, ef, es, counted.1) (read_shown counted.0 room refl)
