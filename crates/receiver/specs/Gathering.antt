-- Gathering (document 01, "Packs"), the receiver's first half: checks, indexes, packets placed, the filling. It ends in an answer or in a whole
-- cube; the file buffer has no part in it. r is the field's reduction byte.
use Rattle.std.specs.Prelude.{◌≡◌, List, ℕ, ◌<◌}
use Rattle.shape.specs.declared.Shape.{Shape}
use Rattle.answer.specs.Values.{Value, gives, refused, refused_at, Checked, passes, fails}
use Rattle.fill.specs.Fill.{CellsLeft, FillOutcome}
use Rattle.pack.specs.declared.Header.{Header}
use Rattle.pack.specs.declared.Section.{Section}
use Rattle.pack.specs.Packets.{Source, source, InRange}
use Rattle.receiver.specs.declared.Counts.{Counts}
use Rattle.receiver.specs.Placing.{repeats_of, conflicts_of, Placed}

-- "answers File (length), Left (K's size)"
pub data Reception : Type 0 where
  file : (length : ℕ) → Reception
  left : (cells : ℕ) → Reception

-- how gathering ends: with an answer, or with a whole cube, whose file is then opened
pub data Gathered : Type 0 where
  ends : Value Reception → Gathered
  whole : Gathered

-- "File and Left also carry the packet count and the repeats"; request P3: beside them the cells whose copies are not all equal
unfoldable pub counts_of : Shape → Source → Counts
counts_of sh s = record { packets = s.count; repeats = repeats_of s s.count; conflicts = conflicts_of sh s s.count }

-- "all counts with it are 0"
unfoldable pub no_counts : Counts
no_counts = record { packets = 0; repeats = 0; conflicts = 0 }

-- Every packet names a cell that is sent (11), and the packets stand in xs₁ and fs₁.
pub record Taken (p : List ℕ) (h : Header) (s : Section) (xs₁ fs₁ : List ℕ) : Type 0 where
  pub indexes : (i : ℕ) → i < s.count → InRange p h s i
  pub placed : Placed h (source p h s) s.count xs₁ fs₁

-- What a pack whose checks come to `checks` gives, and leaves in the cube and the flags.
pub data GatherOutcome (r : ℕ) (p : List ℕ) (checks : Checked (Header × Section)) (xs fs xs' fs' : List ℕ) : Gathered → Counts → Type 0 where
  -- "Numbers 1 to 11 and 15 change no lent byte"
  unfit :
      (n : ℕ) → checks ≡ fails n → xs' ≡ xs → fs' ≡ fs →
      GatherOutcome r p checks xs fs xs' fs' (ends (refused n)) no_counts
  -- "a, b or c not below its length"; request P5: "A packet for an unsent cell meets 11." "All indexes are checked (11) before any packet is placed."
  index :
      (h : Header) (s : Section) → checks ≡ passes (h, s) →
      (i : ℕ) → i < s.count → (InRange p h s i → ⊥) → ((j : ℕ) → j < i → InRange p h s j) →
      xs' ≡ xs → fs' ≡ fs →
      GatherOutcome r p checks xs fs xs' fs' (ends (refused_at 11 i)) no_counts
  -- "no filling exists": the agreed packets stand, all else is 00h; flags are 0 where agreed, 2 where unsent, else 1
  contradiction :
      (h : Header) (s : Section) → checks ≡ passes (h, s) → (xs₁ fs₁ : List ℕ) → Taken p h s xs₁ fs₁ →
      FillOutcome r h.shape xs₁ fs₁ xs' fs' (refused 13) →
      GatherOutcome r p checks xs fs xs' fs' (ends (refused 13)) no_counts
  -- "Left (K's size)"
  some_left :
      (h : Header) (s : Section) → checks ≡ passes (h, s) → (xs₁ fs₁ : List ℕ) → Taken p h s xs₁ fs₁ →
      (k : ℕ) → 0 < k → FillOutcome r h.shape xs₁ fs₁ xs' fs' (gives (CellsLeft.left k)) →
      GatherOutcome r p checks xs fs xs' fs' (ends (gives (left k))) (counts_of h.shape (source p h s))
  -- "nothing is left"
  none_left :
      (h : Header) (s : Section) → checks ≡ passes (h, s) → (xs₁ fs₁ : List ℕ) → Taken p h s xs₁ fs₁ →
      FillOutcome r h.shape xs₁ fs₁ xs' fs' (gives (CellsLeft.left 0)) →
      GatherOutcome r p checks xs fs xs' fs' whole (counts_of h.shape (source p h s))
