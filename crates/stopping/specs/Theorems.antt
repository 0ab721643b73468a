-- What document 01 says of stuck sets, as theorems about the lines of a cube; proofs/Theorems.antt has the proofs.
use Rattle.std.specs.Prelude.{◌≡◌, Bool, true, ◌↔◌, ℕ, ◌-◌, ◌≤◌, ◌<◌}
use Rattle.shape.specs.declared.Shape.{Shape}
use Rattle.shape.specs.Shapes.{cells, cell, IsLine}
use Rattle.stopping.specs.Stopping.{number, Stopping, Largest}

-- a set of cells has a data cell: "A data cell has a < L1-2, b < L2-2 and c < L3-2."
pub record HasDataCell (sh : Shape) (S : ℕ → Bool) : Type 0 where
  pub a : ℕ
  pub b : ℕ
  pub c : ℕ
  pub first : a < sh.l1 - 2
  pub second : b < sh.l2 - 2
  pub third : c < sh.l3 - 2
  pub member : S (cell sh a b c) ≡ true

-- "Any nonempty stuck set has 27 or more cells, and one of them is a data cell."
unfoldable pub StuckSize : Type 0
StuckSize =
    (sh : Shape) (M S : ℕ → Bool) → Stopping (cells sh) (IsLine sh) M S → (n : ℕ) → n < cells sh → S n ≡ true →
    (27 ≤ number S (cells sh)) × HasDataCell sh S

-- "K is the largest, the union of all." Among any missing cells there is one, and no other.
unfoldable pub LargestExists : Type 0
LargestExists = (sh : Shape) (M : ℕ → Bool) → (K : ℕ → Bool) × Largest (cells sh) (IsLine sh) M K

unfoldable pub LargestUnique : Type 0
LargestUnique =
    (sh : Shape) (M K K' : ℕ → Bool) → Largest (cells sh) (IsLine sh) M K → Largest (cells sh) (IsLine sh) M K' →
    (n : ℕ) → n < cells sh → K n ≡ K' n

-- it is the stuck set of the largest size
unfoldable pub LargestSize : Type 0
LargestSize =
    (sh : Shape) (M K : ℕ → Bool) → Stopping (cells sh) (IsLine sh) M K →
    Largest (cells sh) (IsLine sh) M K
    ↔ ((S : ℕ → Bool) → Stopping (cells sh) (IsLine sh) M S → number S (cells sh) ≤ number K (cells sh))

-- its cells are those of all stuck sets
unfoldable pub LargestUnion : Type 0
LargestUnion =
    (sh : Shape) (M K : ℕ → Bool) → Largest (cells sh) (IsLine sh) M K → (n : ℕ) → n < cells sh →
    (K n ≡ true) ↔ ((S : ℕ → Bool) × Stopping (cells sh) (IsLine sh) M S × (S n ≡ true))
