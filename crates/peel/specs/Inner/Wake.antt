-- Marks: which lines are awake, and how a cell wakes its lines.
use Rattle.std.specs.Prelude.{◌≡◌, List, ◌⊎◌, ℕ, ◌+◌, ◌-◌, ◌*◌, ◌/◌, ◌%◌, ◌≤◌, ◌<◌, min, length, get_or}
use Rattle.shape.specs.declared.Shape.{Shape}
use Rattle.shape.proofs.Geometry.{On}

-- The lines 8 g to 8 g + 7 of an axis are a group and share one mark.
abbrev pub mark_at : ℕ → ℕ → ℕ
mark_at axis g = (axis - 1) * 8192 + g

-- A mark stands for a stretch of its group's lines, which are awake: x / 8 lines before them are quiet, and x % 8 behind them. So 0 is a group that is
-- awake as a whole, and in 71 every line is quiet.
unfoldable pub QuietIn : ℕ → ℕ → Type 0
QuietIn x k = (k < x / 8) ⊎ (7 < k + x % 8)

-- the mark x with line k of the group in its stretch
unfoldable pub stretched : ℕ → ℕ → ℕ
stretched x k = min (x / 8) k * 8 + min (x % 8) (7 - k)

-- A line is quiet while its mark says so: no cell on it was filled since its last visit.
unfoldable pub Quiet : List ℕ → ℕ → ℕ → Type 0
Quiet ms axis m = QuietIn (get_or ms (mark_at axis (m / 8)) 0) (m % 8)

-- every line through cell n is awake
unfoldable pub Awake : Shape → List ℕ → ℕ → Type 0
Awake sh ms n = (axis m i : ℕ) → 1 ≤ axis → axis ≤ 3 → On sh axis n m i → Quiet ms axis m → ⊥

-- Lines were only woken, among them every line through cell n.
pub record Woken (sh : Shape) (n : ℕ) (ms ms' : List ℕ) : Type 0 where
  pub size : length ms' ≡ length ms
  pub falls : (axis m : ℕ) → Quiet ms' axis m → Quiet ms axis m
  pub through : Awake sh ms' n

-- From group lo on every group below hi is quiet.
pub record AllQuiet (ms : List ℕ) (axis lo hi : ℕ) : Type 0 where
  pub each : (g : ℕ) → lo ≤ g → g < hi → get_or ms (mark_at axis g) 0 ≡ 71
