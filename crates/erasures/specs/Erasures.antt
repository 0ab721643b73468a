-- The erasures of a line: which lines are looked at, what is found on one, and what `scan_line` answers for every input.
use Rattle.std.specs.Prelude.{◌≡◌, Bool, true, false, List, ◌≢◌, ℕ, ◌+◌, ◌*◌, ◌≤◌, ◌<◌, length}
use Rattle.span.specs.Decision.{Cases}
use Rattle.shape.specs.Flags.{missing}
use Rattle.stopping.specs.Stopping.{on_line}
use Rattle.erasures.specs.Scan.{found, places_read}

-- A line that is looked at: it has a place, is no longer than a line of a cube and its places no further apart, and each place has a flag.
pub record Places (fs : List ℕ) (first stride len : ℕ) : Type 0 where
  pub some : 1 ≤ len
  pub few : len ≤ 255
  pub near : stride ≤ 65025
  pub within : (i : ℕ) → i < len → first + stride * i < length fs

-- The cells of M on a line: how many, at most three; `first` is the place of the first of them, and `last` that of the last that is counted. With
-- none both are 0. Where there are one or two, no other place has one.
pub record Scanned (M : ℕ → Bool) (start stride len count first last : ℕ) : Type 0 where
  pub number : count ≡ found M start stride len
  pub none : count ≡ 0 → (first ≡ 0) × (last ≡ 0)
  pub bound : 1 ≤ count → last < len
  pub at_first : 1 ≤ count → M (start + stride * first) ≡ true
  pub before : 1 ≤ count → on_line M start stride first ≡ 0
  pub at_last : 1 ≤ count → M (start + stride * last) ≡ true
  pub rank : 1 ≤ count → on_line M start stride last + 1 ≡ count
  pub others : count ≤ 2 → (i : ℕ) → i < len → i ≢ first → i ≢ last → M (start + stride * i) ≡ false

-- what `scan_line` answers: the missing cells of a line that is looked at and the places read, and nothing found on any other
abbrev pub LineOutcome : List ℕ → ℕ → ℕ → ℕ → ℕ → ℕ → ℕ → ℕ → Type 0
LineOutcome fs start stride len count read first last =
    Cases (Places fs start stride len)
    (Scanned (missing fs) start stride len count first last × (read ≡ places_read (missing fs) start stride len))
    ((count ≡ 0) × (read ≡ 0) × (first ≡ 0) × (last ≡ 0))
