-- Neighbouring lines that miss the same places, filled together.
use Rattle.std.specs.Prelude.{◌≡◌, Bool, List, ℕ, ◌+◌, ◌*◌, ◌≤◌, ◌<◌, length, get_or}
use Rattle.shape.specs.declared.Shape.{Shape}
use Rattle.shape.specs.Shapes.{IsLine}
use Rattle.line.specs.declared.Run.{Run}
use Rattle.erasures.specs.Erasures.{Scanned}
use Rattle.peel.specs.Peel.{Stops}
use Rattle.peel.specs.Inner.Wake.{Quiet, Awake}
use Rattle.peel.specs.Inner.Sweep.{Filled, Keeps}

-- n lines side by side
pub record Neighbours (sh : Shape) (first stride len n : ℕ) : Type 0 where
  pub some : 1 ≤ n
  pub apart : n ≤ stride
  pub each : (q : ℕ) → q < n → IsLine sh (first + q) stride len

-- each of them has the same one or two cells of M
pub record Alike (M : ℕ → Bool) (first stride len n count j k : ℕ) : Type 0 where
  pub some : 1 ≤ count
  pub few : count ≤ 2
  pub each : (q : ℕ) → q < n → Scanned M (first + q) stride len count j k

-- the cells at the places j and k of these lines
pub data Hole (first stride n j k : ℕ) : ℕ → Type 0 where
  earlier : (q : ℕ) → q < n → Hole first stride n j k (first + q + stride * j)
  later : (q : ℕ) → q < n → Hole first stride n j k (first + q + stride * k)

-- These cells have got flag 3, and every line through one of them was woken.
pub record Flagged (sh : Shape) (first stride n j k : ℕ) (fs ms fs' ms' : List ℕ) : Type 0 where
  pub flags : length fs' ≡ length fs
  pub size : length ms' ≡ length ms
  pub filled : (m : ℕ) → Hole first stride n j k m → get_or fs' m 0 ≡ 3
  pub others : (m : ℕ) → (Hole first stride n j k m → ⊥) → get_or fs' m 0 ≡ get_or fs m 0
  pub falls : (axis m : ℕ) → Quiet ms' axis m → Quiet ms axis m
  pub through : (m : ℕ) → Hole first stride n j k m → Awake sh ms' m

-- n neighbouring lines are not peeled
unfoldable pub AllStop : ℕ → ℕ → ℕ → ℕ → List ℕ → Type 0
AllStop first stride len n fs = (q : ℕ) → q < n → Stops fs (first + q) stride len

-- A visit of n neighbouring lines: afterwards they are not to be peeled.
pub record LinesVisited (r : ℕ) (sh : Shape) (first stride len n : ℕ) (xs fs ms xs' fs' ms' : List ℕ) (count : ℕ) : Type 0 where
  pub filled : Filled r sh (AllStop first stride len n) xs fs xs' fs' count
  pub keeps : Keeps sh fs ms fs' ms'
  pub after : AllStop first stride len n fs'

-- n neighbouring lines as a run of byte lines: layer t of line q is the run's line q * w + t
unfoldable pub run_of : Shape → ℕ → ℕ → ℕ → ℕ → Run
run_of sh first stride len n = record { first = first * sh.w; stride = stride * sh.w; len = len; width = n * sh.w }
