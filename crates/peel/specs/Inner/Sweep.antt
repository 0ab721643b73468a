-- Sweeps: what a step of peeling fills, and which lines need no visit.
use Rattle.std.specs.Prelude.{◌≡◌, List, ℕ, ◌+◌, ◌≤◌, ◌<◌, length}
use Rattle.shape.specs.declared.Shape.{Shape}
use Rattle.shape.specs.Shapes.{cells, AxisLine, stride_of, length_of, lines_of, first_of}
use Rattle.shape.specs.Flags.{missing}
use Rattle.stopping.specs.Stopping.{number}
use Rattle.peel.specs.declared.state.Peeling.{Peeling}
use Rattle.peel.specs.Peel.{Stops, Reaches}
use Rattle.peel.specs.Inner.Wake.{Quiet}

-- What a method of `Peeling` leaves as it was: which slices are lent, and the shape.
abbrev pub Lends : Peeling → Peeling → Type 0
Lends s t = (t.cube.ghost_name ≡ s.cube.ghost_name) × (t.flags.ghost_name ≡ s.flags.ghost_name) × (t.shape ≡ s.shape)

-- no line of an axis is peeled
unfoldable pub AxisStops : Shape → List ℕ → ℕ → Type 0
AxisStops sh fs axis = (first stride len : ℕ) → AxisLine sh axis first stride len → Stops fs first stride len

-- A step of peeling that filled so many cells. Where there was none no flag has changed, and by `stops` there was nothing to fill.
pub record Filled (r : ℕ) (sh : Shape) (stops : List ℕ → Type 0) (xs fs xs' fs' : List ℕ) (count : ℕ) : Type 0 where
  pub reaches : Reaches r sh xs fs xs' fs'
  pub fewer : number (missing fs) (cells sh) ≡ number (missing fs') (cells sh) + count
  pub idle : count ≡ 0 → fs' ≡ fs
  pub stopped : count ≡ 0 → stops fs

-- line m of an axis is not peeled
unfoldable pub LineStops : Shape → List ℕ → ℕ → ℕ → Type 0
LineStops sh fs axis m = Stops fs (first_of sh axis m) (stride_of sh axis) (length_of sh axis)

-- nor are the lines of an axis from lo on and below hi, as far as it has them
pub record LinesStop (sh : Shape) (axis lo hi : ℕ) (fs : List ℕ) : Type 0 where
  pub each : (m : ℕ) → lo ≤ m → m < hi → m < lines_of sh axis → LineStops sh fs axis m

-- No quiet line is to be peeled.
pub record Calm (sh : Shape) (fs ms : List ℕ) : Type 0 where
  pub size : length ms ≡ 24576
  pub stops : (axis m : ℕ) → 1 ≤ axis → axis ≤ 3 → m < lines_of sh axis → Quiet ms axis m → LineStops sh fs axis m

-- Lines were only woken, and a line that stayed quiet has not begun to need peeling.
pub record Keeps (sh : Shape) (fs ms fs' ms' : List ℕ) : Type 0 where
  pub size : length ms' ≡ length ms
  pub falls : (axis m : ℕ) → Quiet ms' axis m → Quiet ms axis m
  pub stops :
      (axis m : ℕ) → 1 ≤ axis → axis ≤ 3 → m < lines_of sh axis → Quiet ms' axis m →
      LineStops sh fs axis m → LineStops sh fs' axis m

-- A visit of the lines of an axis from lo on and below hi: those that are quiet afterwards are not to be peeled.
pub record Visited (r : ℕ) (sh : Shape) (axis lo hi : ℕ) (xs fs ms xs' fs' ms' : List ℕ) (count : ℕ) : Type 0 where
  pub filled : Filled r sh (LinesStop sh axis lo hi) xs fs xs' fs' count
  pub keeps : Keeps sh fs ms fs' ms'
  pub after : (m : ℕ) → lo ≤ m → m < hi → m < lines_of sh axis → Quiet ms' axis m → LineStops sh fs' axis m
