-- Cubes and their data strings (document 01, "Cube"). A cube is its list of bytes.
use Rattle.std.specs.Prelude.{◌≡◌, List, ℕ, ◌+◌, ◌-◌, ◌*◌, ◌/◌, ◌%◌, ◌<◌, length, get_or}
use Rattle.shape.specs.declared.Shape.{Shape}
use Rattle.shape.specs.Shapes.{Valid, cells, capacity, cell}
use Rattle.data.specs.Tables.{tabulate}

-- the bytes of a cube of a valid shape: W bytes a cell
pub record IsCube (sh : Shape) (xs : List ℕ) : Type 0 where
  pub valid : Valid sh
  pub size : length xs ≡ sh.w * cells sh

-- "Layer w is the w-th byte of every cell"
unfoldable pub layer : Shape → List ℕ → ℕ → ℕ → ℕ
layer sh xs w n = get_or xs (n * sh.w + w) 0

-- "Data cells in cell order, W bytes each, hold the data string": data cell (a,b,c) is number a + (L1-2) × (b + (L2-2) × c) among the data cells.
pub record HoldsData (sh : Shape) (xs ds : List ℕ) : Type 0 where
  pub size : length ds ≡ capacity sh
  pub bytes :
      (a b c w : ℕ) → a < sh.l1 - 2 → b < sh.l2 - 2 → c < sh.l3 - 2 → w < sh.w →
      get_or ds ((a + (sh.l1 - 2) * (b + (sh.l2 - 2) * c)) * sh.w + w) 0 ≡ layer sh xs w (cell sh a b c)

-- byte q of the data string that a cube holds: byte q % W of the data cell with number q / W
unfoldable pub data_of : Shape → List ℕ → ℕ → ℕ
data_of sh xs q =
    layer sh xs (q % sh.w)
    (cell sh (q / sh.w % (sh.l1 - 2)) (q / sh.w / (sh.l1 - 2) % (sh.l2 - 2))
    (q / sh.w / ((sh.l1 - 2) * (sh.l2 - 2))))

-- the data string that a cube holds
unfoldable pub held_data : Shape → List ℕ → List ℕ
held_data sh xs = tabulate (capacity sh) (data_of sh xs)

-- What a change of the data string alone leaves of a cube: its length, and every byte of every cell (a,b,c) that is no data cell.
pub record ParityKept (sh : Shape) (before after : List ℕ) : Type 0 where
  pub size : length after ≡ length before
  pub bytes :
      (a b c w : ℕ) → a < sh.l1 → b < sh.l2 → c < sh.l3 → w < sh.w →
      ((a < sh.l1 - 2) × (b < sh.l2 - 2) × (c < sh.l3 - 2) → ⊥) →
      layer sh after w (cell sh a b c) ≡ layer sh before w (cell sh a b c)
