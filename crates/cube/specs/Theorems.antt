-- What document 01 says of cubes, as theorems about the definitions.
use Rattle.std.specs.Prelude.{◌≡◌, List, ℕ, ◌<◌, length, get_or}
use Rattle.field.specs.Field.{Primitive}
use Rattle.shape.specs.declared.Shape.{Shape}
use Rattle.shape.specs.Shapes.{Valid, capacity}
use Rattle.data.specs.Data.{HoldsData, held_data}
use Rattle.cube.specs.Cube.{CodeCube}
use Rattle.cube.specs.Encoded.{encoded}

-- xs is the code cube that has the data string ds, and no other cube is
pub record OnlyCodeCube (r : ℕ) (sh : Shape) (ds xs : List ℕ) : Type 0 where
  pub code : CodeCube r sh xs
  pub holds : HoldsData sh xs ds
  pub only : (ys : List ℕ) → CodeCube r sh ys → HoldsData sh ys ds → ys ≡ xs

-- "Exactly one code cube has a given data string."
unfoldable pub OneCodeCube : Type 0
OneCodeCube =
    (r : ℕ) → Primitive r → (sh : Shape) → Valid sh → (ds : List ℕ) → length ds ≡ capacity sh →
    ((p : ℕ) → get_or ds p 0 < 256) → OnlyCodeCube r sh ds (encoded r sh ds)

-- A cube holds one data string (`OneDataString`), so encoding and extracting undo each other.
unfoldable pub RoundTrip : Type 0
RoundTrip =
    (r : ℕ) → Primitive r → (sh : Shape) → Valid sh →
    ((ds : List ℕ) → length ds ≡ capacity sh → ((p : ℕ) → get_or ds p 0 < 256) → held_data sh (encoded r sh ds) ≡ ds)
    × ((xs : List ℕ) → CodeCube r sh xs → encoded r sh (held_data sh xs) ≡ xs)
