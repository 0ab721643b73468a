-- Which lines the last check of a call asks for, and what the check of a whole cube answers.
use Rattle.std.specs.Prelude.{◌≡◌, List, ◌⊎◌, ℕ, ◌<◌}
use Rattle.answer.specs.Values.{Value, gives, refused, passes}
use Rattle.shape.specs.declared.Shape.{Shape}
use Rattle.shape.specs.declared.Line.{Line}
use Rattle.shape.specs.Shapes.{AxisLine, IsLine, line_of}
use Rattle.shape.specs.Flags.{missing}
use Rattle.cube.specs.Cube.{layer_line, CodeCube}
use Rattle.line.specs.Line.{Codeword}
use Rattle.stopping.specs.Stopping.{on_line}
use Rattle.fill.specs.Fill.{CellsLeft, left}

-- a line without a missing cell is a codeword in every layer
unfoldable pub Right : ℕ → Shape → List ℕ → List ℕ → ℕ → ℕ → ℕ → Type 0
Right r sh xs fs first stride len =
    on_line (missing fs) first stride len ≡ 0 →
    (w : ℕ) → w < sh.w → Codeword r (layer_line sh xs w first stride) len

-- the same of line m of an axis, if there is one
unfoldable pub LineRight : ℕ → Shape → List ℕ → List ℕ → ℕ → ℕ → Type 0
LineRight r sh xs fs axis m = (l : Line) → line_of sh axis m ≡ passes l → Right r sh xs fs l.first l.stride l.len

-- of the lines of an axis, and of all lines
unfoldable pub AxisRight : ℕ → Shape → List ℕ → List ℕ → ℕ → Type 0
AxisRight r sh xs fs axis = (first stride len : ℕ) → AxisLine sh axis first stride len → Right r sh xs fs first stride len

unfoldable pub AllRight : ℕ → Shape → List ℕ → List ℕ → Type 0
AllRight r sh xs fs = (first stride len : ℕ) → IsLine sh first stride len → Right r sh xs fs first stride len

-- with no cell missing, none is left in a code cube, and any other cube is a contradiction
unfoldable pub WholeChecked : ℕ → Shape → List ℕ → Value CellsLeft → Type 0
WholeChecked r sh xs value =
    (CodeCube r sh xs × (value ≡ gives (left 0))) ⊎ ((CodeCube r sh xs → ⊥) × (value ≡ refused 13))
