-- The second demand: "The encoded cube is the one cube with the given data in which both check sums of every line on all three axes are zero;
-- the receiver, its packets once placed, refuses a contradiction exactly when no filling of the forced places makes every fully known line right,
-- and else gives that filling."
use Rattle.std.specs.Prelude.{◌≡◌, Bool, List, [], ◌∷◌, ◌↔◌, ◌⊎◌, ℕ, ◌*◌, ◌<◌, length, get_or}
use Rattle.answer.specs.Values.{Value, gives, refused, passes, number_of}
use Rattle.field.specs.Field.{reduction}
use Rattle.shape.specs.declared.Shape.{Shape}
use Rattle.shape.specs.Shapes.{Valid, cells, capacity, IsLine}
use Rattle.shape.specs.Flags.{missing}
use Rattle.cube.specs.Theorems.{OnlyCodeCube}
use Rattle.cube.specs.Calls.{EncodeOutcome}
use Rattle.stopping.specs.Stopping.{number, Largest}
use Rattle.fill.specs.Fill.{CellsLeft, flags_checked, Filling, FillOutcome}
use Rattle.receiver.specs.declared.Counts.{Counts}
use Rattle.receiver.specs.Gathering.{Reception, file, left}
use Rattle.receiver.specs.Receive.{Memory, ReceiveOutcome}
use Rattle.demands.specs.Ends.{OneOf}
use Rattle.demands.specs.Placed.{BeforeFilling}

-- "refuses a contradiction exactly when no filling of the forced places makes every fully known line right, and else gives that filling", from the
-- cube xs with flags fs, whose largest stopping set is K: the forced places are the missing cells outside K, and a line without a cell of K is
-- fully known. `Refuses` says that the answer is 13, `Tells k` that it carries the count k.
pub record FillsOrRefuses (sh : Shape) (xs fs : List ℕ) (K : ℕ → Bool) (xs' fs' : List ℕ) (Refuses : Type 0) (Tells : ℕ → Type 0) : Type 0 where
  -- "refuses a contradiction exactly when no filling"
  pub contradiction : Refuses ↔ ((v : List ℕ) → Filling reduction sh xs (missing fs) K v → ⊥)
  -- "and else gives that filling": the cube afterwards is one, the flags are those of K, and the answer carries K's size
  pub given : (Refuses → ⊥) → Filling reduction sh xs (missing fs) K xs'
  pub flags : (Refuses → ⊥) → (n : ℕ) → n < cells sh → missing fs' n ≡ K n
  pub told : (Refuses → ⊥) → Tells (number K (cells sh))
  -- "that filling": there is no other
  pub only : (v : List ℕ) → Filling reduction sh xs (missing fs) K v → xs' ≡ v

-- "the answer carries K's size", or the file is opened where that is 0
unfoldable pub TellsLeft : Value Reception → ℕ → Type 0
TellsLeft value k =
    (0 < k → value ≡ gives (left k))
    × (k ≡ 0 → ((n : ℕ) × (value ≡ gives (file n))) ⊎ (value ≡ refused 14))

-- what the receiver can refuse a pack with before filling, in the table's order
unfoldable pub early_numbers : List ℕ
early_numbers = 6 ∷ 7 ∷ 1 ∷ 2 ∷ 3 ∷ 10 ∷ 19 ∷ 9 ∷ 8 ∷ 4 ∷ 11 ∷ []

pub record Demand2 : Type 0 where
  -- "The encoded cube is the one cube with the given data in which both check sums of every line on all three axes are zero":
  -- for every valid shape and slices of the exact lengths `encode` succeeds, and leaves that cube.
  pub encoded :
      (sh : Shape) → Valid sh → (ds before after : List ℕ) → length ds ≡ capacity sh → length before ≡ sh.w * cells sh →
      ((i : ℕ) → get_or ds i 0 < 256) → (value : Value Unit) → EncodeOutcome reduction sh ds before after value →
      (value ≡ gives tt) × OnlyCodeCube reduction sh ds after
  -- `fill`, for every cube and flags that pass its checks
  pub filled :
      (sh : Shape) (xs fs xs' fs' : List ℕ) (value : Value CellsLeft) →
      flags_checked sh (length xs) fs ≡ passes tt → FillOutcome reduction sh xs fs xs' fs' value →
      (K : ℕ → Bool) → Largest (cells sh) (IsLine sh) (missing fs) K →
      FillsOrRefuses sh xs fs K xs' fs' (value ≡ refused 13) (λ k. value ≡ gives (CellsLeft.left k))
  -- "the receiver": it refuses its packets, or they are placed;
  pub placed :
      (p : List ℕ) (m m' : Memory) (value : Value Reception) (counts : Counts) → ReceiveOutcome reduction p m m' value counts →
      OneOf early_numbers (number_of value) ⊎ BeforeFilling p m
  -- and "its packets once placed"
  pub received :
      (p : List ℕ) (m m' : Memory) (value : Value Reception) (counts : Counts) → ReceiveOutcome reduction p m m' value counts →
      (b : BeforeFilling p m) (K : ℕ → Bool) → Largest (cells b.header.shape) (IsLine b.header.shape) (missing b.flags) K →
      FillsOrRefuses b.header.shape b.cube b.flags K m'.cube m'.flags (value ≡ refused 13) (TellsLeft value)
