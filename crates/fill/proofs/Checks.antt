-- The checks 1 to 5, by what each of them finds; and what a call that passes them has.
use Rattle.std.specs.Prelude.{Ok, Err}
use mathlib.Core.Path.{◌≡◌, refl}
use mathlib.Core.Bool.{Bool, true, false, cond}
use mathlib.Core.List.{List}
use mathlib.Core.Logic.{◌≢◌, ◌⊎◌, ⊎_elim}
use Prim.Native.Nat.{ℕ}
use borrow.Author.Tests.{eqb-true, eq-eqb, ne_eqb}
use lib.Dec.{eqb}
use lib.ListN.{length}
use Rattle.answer.specs.declared.Fault.TheVariants.{SliceLength, FlagValue}
use Rattle.answer.specs.declared.Refusal.TheVariants.{Plain}
use Rattle.answer.specs.Refusals.{fault_number}
use Rattle.answer.specs.Values.{passes, fails, check, and_then, checked, refusal, value_of}
use Rattle.answer.proofs.Values.{check-passed, then-passed}
use Rattle.shape.specs.declared.Shape.{Shape}
use Rattle.shape.specs.declared.Sizes.{Sizes}
use Rattle.shape.specs.Shapes.{both, shape_checked}
use Rattle.shape.specs.Flags.{flags_valid}
use Rattle.shape.proofs.Valid.{both-parts, both_true}
use Rattle.fill.specs.Fill.{flags_checked}
use Rattle.peel.specs.Peel.{Sized}
use Rattle.peel.proofs.Sizing.{passed-sized}

-- ---- what the checks answer

module _ (sh : Shape) (n : ℕ) (fs : List ℕ) where
  module _ (z : Sizes) (fits : shape_checked sh ≡ passes z) where
    pub checked-length : (n ≢ z.bytes) ⊎ (length fs ≢ z.cells) → value_of {A = Unit} (Err (Plain SliceLength)) ≡ checked (flags_checked sh n fs)
    unfolding flags_checked and_then check checked value_of refusal fault_number both
    checked-length s =
        rw fits
        (⊎_elim (λ ne. rw (ne_eqb n z.bytes ne))
        (λ ne. rw (ne_eqb (length fs) z.cells ne) (by (eqb n z.bytes))) s)
      where
        by : (b : Bool) → value_of {A = Unit} (Err (Plain SliceLength)) ≡ checked (cond (cond b false false) (cond (flags_valid fs) (passes tt) (fails 5)) (fails 4))
        by true = refl
        by false = refl

    pub checked-flags : (b : Bool) → n ≡ z.bytes → length fs ≡ z.cells → flags_valid fs ≡ b
        → value_of {A = Unit} (cond b (Ok tt) (Err (Plain FlagValue))) ≡ checked (flags_checked sh n fs)
    unfolding flags_checked and_then check checked value_of refusal fault_number
    checked-flags b p q v =
        rw (fits, both_true (eqb n z.bytes) (eqb (length fs) z.cells) (eq-eqb _ _ p) (eq-eqb _ _ q), v) (by b)
      where
        by : (b : Bool) → value_of {A = Unit} (cond b (Ok tt) (Err (Plain FlagValue))) ≡ checked (cond b (passes tt) (fails 5))
        by true = refl
        by false = refl

-- ---- what a call that passes has

checks-passed : (sh : Shape) (n : ℕ) (fs : List ℕ) → flags_checked sh n fs ≡ passes tt
    → (z : Sizes) × (shape_checked sh ≡ passes z) × (n ≡ z.bytes) × (length fs ≡ z.cells) × (flags_valid fs ≡ true)
unfolding flags_checked
checks-passed sh n fs e =
    let (z, fits, rest) = then-passed (shape_checked sh) _ tt e in
    let (lengths, last) = check-passed (both (eqb n z.bytes) (eqb (length fs) z.cells)) 4 _ tt rest in
    let (p, q) = both-parts (eqb n z.bytes) (eqb (length fs) z.cells) lengths in
    (z, fits, eqb-true n z.bytes p, eqb-true (length fs) z.cells q, (check-passed (flags_valid fs) 5 (passes tt) tt last).0)

pub done-sized : (sh : Shape) (xs fs : List ℕ) → flags_checked sh (length xs) fs ≡ passes tt → Sized sh xs fs
done-sized sh xs fs e = let (z, fits, p, q, v) = checks-passed sh (length xs) fs e in passed-sized sh xs fs z fits p q

pub done-flags : (sh : Shape) (n : ℕ) (fs : List ℕ) → flags_checked sh n fs ≡ passes tt → flags_valid fs ≡ true
done-flags sh n fs e = let (z, fits, p, q, v) = checks-passed sh n fs e in v
