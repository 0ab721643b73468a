-- Spans of bytes of a slice: what copying and setting them leaves, what comparing and testing them answers.
use Rattle.std.specs.Prelude.{◌≡◌, Bool, List, ℕ, ◌+◌, ◌≤◌, ◌<◌, length, get_or, replicate}
use Rattle.span.specs.Decision.{Cases, Guarded}

-- Every byte outside the n bytes from `at` on is kept, and the length.
pub record Kept (before : List ℕ) (at n : ℕ) (after : List ℕ) : Type 0 where
  pub size : length after ≡ length before
  pub below : (p : ℕ) → p < at → get_or after p 0 ≡ get_or before p 0
  pub above : (p : ℕ) → at + n ≤ p → get_or after p 0 ≡ get_or before p 0

-- n bytes of src from `from` on are copied to `to` on.
pub record Copied (src : List ℕ) (from : ℕ) (before : List ℕ) (to n : ℕ) (after : List ℕ) : Type 0 where
  pub copied : (i : ℕ) → i < n → get_or after (to + i) 0 ≡ get_or src (from + i) 0
  pub kept : Kept before to n after

-- The list vs stands from `at` on.
abbrev pub Put : List ℕ → ℕ → List ℕ → List ℕ → Type 0
Put before at vs after = Copied vs 0 before at (length vs) after

-- n bytes from `at` on are v.
pub record SetTo (before : List ℕ) (at n v : ℕ) (after : List ℕ) : Type 0 where
  pub bytes : (i : ℕ) → i < n → get_or after (at + i) 0 ≡ v
  pub kept : Kept before at n after

-- c is the n bytes of src from `from` on.
pub record Piece (src : List ℕ) (from n : ℕ) (c : List ℕ) : Type 0 where
  pub size : length c ≡ n
  pub bytes : (i : ℕ) → i < n → get_or c i 0 ≡ get_or src (from + i) 0

-- Two spans of n bytes lie inside their slices.
abbrev pub BothInside : List ℕ → ℕ → List ℕ → ℕ → ℕ → Type 0
BothInside xs from ys to n = (from + n ≤ length xs) × (to + n ≤ length ys)

-- what `copy` leaves
abbrev pub CopyOutcome : List ℕ → ℕ → List ℕ → ℕ → ℕ → List ℕ → Bool → Type 0
CopyOutcome src from before to n after answer =
    Guarded (BothInside src from before to n) (Copied src from before to n after) before after answer

-- what `copy_strip` leaves and answers: 64 bytes, or nothing and 64 times 00h
abbrev pub StripOutcome : List ℕ → ℕ → List ℕ → ℕ → List ℕ → List ℕ → Type 0
StripOutcome src from before to after c =
    Cases (BothInside src from before to 64) (Copied src from before to 64 after × Piece src from 64 c)
    ((after ≡ before) × (c ≡ replicate 64 0))

-- what `set` leaves
abbrev pub SetOutcome : List ℕ → ℕ → ℕ → ℕ → List ℕ → Bool → Type 0
SetOutcome before at n v after answer =
    Guarded (at + n ≤ length before) (SetTo before at n v after) before after answer

-- Two spans of n bytes lie inside their slices and agree.
pub record SameBytes (xs : List ℕ) (from : ℕ) (ys : List ℕ) (to n : ℕ) : Type 0 where
  pub inside : BothInside xs from ys to n
  pub bytes : (i : ℕ) → i < n → get_or xs (from + i) 0 ≡ get_or ys (to + i) 0

-- A span of n bytes lies inside its slice and is all 00h.
pub record ZeroBytes (xs : List ℕ) (at n : ℕ) : Type 0 where
  pub inside : at + n ≤ length xs
  pub bytes : (i : ℕ) → i < n → get_or xs (at + i) 0 ≡ 0
