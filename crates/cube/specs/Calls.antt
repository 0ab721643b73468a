-- What the public calls answer and leave in lent memory, for every input.
use Rattle.std.specs.Prelude.{◌≡◌, Bool, List, ℕ, length}
use Rattle.answer.specs.Values.{Value, gives, refused, passes, fails}
use Rattle.shape.specs.declared.Shape.{Shape}
use Rattle.data.specs.Calls.{slices_checked, cube_checked}
use Rattle.data.specs.Data.{held_data}
use Rattle.cube.specs.Cube.{CodeCube}
use Rattle.cube.specs.Encoded.{encoded}
use Rattle.span.specs.Decision.{Decides}

-- `encode`: the cube becomes the one code cube that has the data. A refusal changes no byte.
pub data EncodeOutcome (r : ℕ) (sh : Shape) (ds before after : List ℕ) : Value Unit → Type 0 where
  encode_refused :
      (n : ℕ) → slices_checked sh (length ds) (length before) ≡ fails n → after ≡ before →
      EncodeOutcome r sh ds before after (refused n)
  encode_done :
      slices_checked sh (length ds) (length before) ≡ passes tt → after ≡ encoded r sh ds →
      EncodeOutcome r sh ds before after (gives tt)

-- `complete`: the cube becomes the one code cube that has the data of its data cells, whatever stood in the others. A refusal changes no byte.
pub data CompleteOutcome (r : ℕ) (sh : Shape) (before after : List ℕ) : Value Unit → Type 0 where
  complete_refused :
      (n : ℕ) → cube_checked sh (length before) ≡ fails n → after ≡ before →
      CompleteOutcome r sh before after (refused n)
  complete_done :
      cube_checked sh (length before) ≡ passes tt → after ≡ encoded r sh (held_data sh before) →
      CompleteOutcome r sh before after (gives tt)

-- `is_code_cube`: whether the bytes are a code cube of the shape.
pub data CheckOutcome (r : ℕ) (sh : Shape) (xs : List ℕ) : Value Bool → Type 0 where
  check_refused : (n : ℕ) → cube_checked sh (length xs) ≡ fails n → CheckOutcome r sh xs (refused n)
  check_done :
      (b : Bool) → cube_checked sh (length xs) ≡ passes tt → Decides (CodeCube r sh xs) b → CheckOutcome r sh xs (gives b)
