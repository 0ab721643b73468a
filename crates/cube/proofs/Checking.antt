-- What a caller of `is_code_cube` learns from its answer: a cube of the right length is not refused.
use Rattle.std.specs.Result.{result_unwrap_or}
use Rattle.std.specs.Prelude.{Result, Ok, Err}
use mathlib.Core.Path.{◌≡◌, refl, sym, ◌∙◌}
use mathlib.Core.Bool.{Bool, false}
use mathlib.Core.List.{List}
use Prim.Native.Nat.{ℕ, ◌*◌}
use lib.ListN.{length}
use Rattle.answer.specs.declared.Refusal.{Refusal}
use Rattle.answer.specs.Values.{Value, refusal, value_of}
use Rattle.answer.proofs.Values.{passes-fails, refusal-gives}
use Rattle.shape.specs.declared.Shape.{Shape}
use Rattle.shape.specs.Shapes.{Valid, cells}
use Rattle.cube.specs.Cube.{CodeCube}
use Rattle.span.specs.Decision.{Decides}
use Rattle.cube.specs.Calls.{CheckOutcome, check_refused, check_done}
use Rattle.data.proofs.Checks.{cube-done-checked}
use Rattle.cube.proofs.Outcomes.{check-decides}

module _ (r : ℕ) (sh : Shape) (xs : List ℕ) (x : Result Bool Refusal) (o : CheckOutcome r sh xs (value_of x)) where
  pub check-answered : (b : Bool) → x ≡ Ok b → Decides (CodeCube r sh xs) b
  unfolding value_of
  check-answered b e = check-decides r sh xs b (rw e at o)

  pub check-not-refused : Valid sh → length xs ≡ sh.w * cells sh → (f : Refusal) → x ≡ Err f → ⊥
  unfolding value_of
  check-not-refused v size f e = by (refusal f) refl (rw e at o)
    where
      by : (value : Value Bool) → value ≡ refusal f → CheckOutcome r sh xs value → ⊥
      by _ p (check_refused n failed) = passes-fails tt n (sym (cube-done-checked sh (length xs) v size) ∙ failed)
      by _ p (check_done b checks d) = refusal-gives f b (sym p)

-- a cube of the shape's size is not refused
pub check-decided : (r : ℕ) (sh : Shape) (xs : List ℕ) → Valid sh → length xs ≡ sh.w * cells sh → (x : Result Bool Refusal)
    → CheckOutcome r sh xs (value_of x) → Decides (CodeCube r sh xs) (result_unwrap_or x false)
check-decided r sh xs v size (Ok b) o = check-answered r sh xs (Ok b) o b refl
check-decided r sh xs v size (Err f) o = absurd (check-not-refused r sh xs (Err f) o v size f refl)
