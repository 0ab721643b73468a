-- What the check of a cube decides, axis by axis.
use Rattle.std.specs.Prelude.{◌≡◌, List, ℕ, ◌+◌, ◌*◌, ◌%◌, ◌≤◌, ◌<◌}
use Rattle.answer.specs.Values.{passes}
use Rattle.shape.specs.declared.Shape.{Shape}
use Rattle.shape.specs.declared.Line.{Line}
use Rattle.shape.specs.Shapes.{line_of, lines_of, stride_of}
use Rattle.cube.specs.Cube.{layer_line}
use Rattle.line.specs.Line.{Codeword}

-- the lines of an axis from one number up to another are right in every layer
pub record LinesRight (r : ℕ) (sh : Shape) (axis from to : ℕ) (xs : List ℕ) : Type 0 where
  pub lines :
      (m : ℕ) (l : Line) → from ≤ m → m < to → line_of sh axis m ≡ passes l →
      (w : ℕ) → w < sh.w → Codeword r (layer_line sh xs w l.first l.stride) l.len

-- the lines of an axis between two numbers are whole blocks of neighbouring lines
pub record Blocks (sh : Shape) (axis from to : ℕ) : Type 0 where
  pub begins : from % stride_of sh axis ≡ 0
  pub ends : to % stride_of sh axis ≡ 0
  pub ordered : from ≤ to
  pub within : to ≤ lines_of sh axis

-- the lines of axes 1 and 2 in plane c are right in every layer
pub record PlaneRight (r : ℕ) (sh : Shape) (c : ℕ) (xs : List ℕ) : Type 0 where
  pub rows : LinesRight r sh 1 (c * sh.l2) (c * sh.l2 + sh.l2) xs
  pub columns : LinesRight r sh 2 (c * sh.l1) (c * sh.l1 + sh.l1) xs
