-- Code cubes (document 01, "Cube"). A cube is its list of bytes; r is the field's reduction byte.
use Rattle.std.specs.Prelude.{◌≡◌, List, ℕ, ◌+◌, ◌*◌, ◌<◌, length, get_or}
use Rattle.shape.specs.declared.Shape.{Shape}
use Rattle.shape.specs.Shapes.{cells, IsLine}
use Rattle.line.specs.Line.{Codeword}
use Rattle.data.specs.Data.{layer}

-- a line of a layer, from place to byte
unfoldable pub layer_line : Shape → List ℕ → ℕ → ℕ → ℕ → ℕ → ℕ
layer_line sh xs w first stride i = layer sh xs w (first + stride * i)

-- "A cube is a code cube when every line of every axis is right in every layer." It has W bytes a cell.
pub record CodeCube (r : ℕ) (sh : Shape) (xs : List ℕ) : Type 0 where
  pub size : length xs ≡ sh.w * cells sh
  pub bytes : (p : ℕ) → get_or xs p 0 < 256
  pub lines :
      (first stride len : ℕ) → IsLine sh first stride len →
      (w : ℕ) → w < sh.w → Codeword r (layer_line sh xs w first stride) len
