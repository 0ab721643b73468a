-- The ways out of each call.
use Rattle.std.specs.Prelude.{Result, Err, IsErrAnd}
use Rattle.std.proofs.lemmas.Result.{err_from_is_err_and}
use mathlib.Core.Path.{◌≡◌, refl}
use mathlib.Core.List.{List}
use Prim.Native.Nat.{ℕ}
use lib.ListN.{length}
use Rattle.answer.specs.declared.Refusal.{Refusal}
use Rattle.answer.specs.Values.{checked, value_of}
use Rattle.answer.proofs.Values.{value-failed}
use Rattle.shape.specs.declared.Shape.{Shape}
use Rattle.mend.specs.Mend.{axis_checked, mend_checked, AxisOutcome, axis_refused, MendOutcome, mend_refused}

module _ (r : ℕ) (sh : Shape) (answer : Result Unit Refusal) (f : Refusal) (on : Result Unit Refusal) where
  pub axis-unfit : (axis : ℕ) (xs : List ℕ) → value_of answer ≡ checked (axis_checked sh axis (length xs)) → answer ≡ Err f
      → IsErrAnd on (λ g. g ≡ f) → AxisOutcome r sh axis xs xs (value_of on)
  unfolding value_of
  axis-unfit axis xs e p handed =
      let (n, failed, value) = value-failed {B = Unit} answer _ f e p in
      let (g, is, same) = err_from_is_err_and on handed in
      rw (is, same, value) (axis_refused n failed refl)

  pub mend-unfit : (xs fs before : List ℕ) → value_of answer ≡ checked (mend_checked sh (length xs) fs (length before)) → answer ≡ Err f
      → IsErrAnd on (λ g. g ≡ f) → MendOutcome r sh xs fs before before (value_of on)
  unfolding value_of
  mend-unfit xs fs before e p handed =
      let (n, failed, value) = value-failed {B = Unit} answer _ f e p in
      let (g, is, same) = err_from_is_err_and on handed in
      rw (is, same, value) (mend_refused n failed refl)
