-- What document 01 says of data strings, as a theorem about the definitions.
use Rattle.std.specs.Prelude.{◌≡◌, List, ℕ}
use Rattle.shape.specs.declared.Shape.{Shape}
use Rattle.shape.specs.Shapes.{Valid}
use Rattle.data.specs.Data.{HoldsData, held_data}

-- "Data cells in cell order, W bytes each, hold the data string": every cube holds one, and one only.
unfoldable pub OneDataString : Type 0
OneDataString =
    (sh : Shape) → Valid sh → (xs : List ℕ) →
    HoldsData sh xs (held_data sh xs) × ((ds : List ℕ) → HoldsData sh xs ds → ds ≡ held_data sh xs)
