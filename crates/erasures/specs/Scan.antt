-- Request P2: "the count of holes on a line ends" at the third. "It answers how many holes, at most 3, and how many places it read: up to and
-- with its third hole, or the whole line." M is a set of cells, a line is given by its first cell, stride and length.
use Rattle.std.specs.Prelude.{◌≡◌, Bool, true, List, ℕ, ◌+◌, ◌*◌, ◌≤◌, ◌<◌, min, eqb, ltb, length}
use Rattle.answer.specs.Values.{Checked, passes, check, and_then}
use Rattle.shape.specs.declared.Shape.{Shape}
use Rattle.shape.specs.declared.Line.{Line}
use Rattle.shape.specs.Shapes.{cells, line_of}
use Rattle.shape.specs.Flags.{missing}
use Rattle.stopping.specs.Stopping.{number, on_line}
use Rattle.erasures.specs.declared.ScanCounts.{ScanCounts}

-- The request's sentence: the third hole stands in place k, and k + 1 places are read; or there are fewer, and the whole line is.
pub data UpToThird (M : ℕ → Bool) (first stride len : ℕ) : ℕ → ℕ → Type 0 where
  third :
      (k : ℕ) → k < len → M (first + stride * k) ≡ true → on_line M first stride k ≡ 2 →
      UpToThird M first stride len 3 (k + 1)
  whole : on_line M first stride len ≤ 2 → UpToThird M first stride len (on_line M first stride len) len

-- The same two numbers as functions of the line: the holes, at most 3; and the places with fewer than three holes before them.
abbrev pub found : (ℕ → Bool) → ℕ → ℕ → ℕ → ℕ
found M first stride len = min 3 (on_line M first stride len)

unfoldable pub places_read : (ℕ → Bool) → ℕ → ℕ → ℕ → ℕ
places_read M first stride len = number (λ k. ltb (on_line M first stride k) 3) len

unfoldable pub scanned : List ℕ → Line → ScanCounts
scanned fs l =
    record {
      erasures = found (missing fs) l.first l.stride l.len;
      read = places_read (missing fs) l.first l.stride l.len;
    }

-- What `scan` answers for line m of an axis: 1 (the axis number or a length), 2, 3, 1 (no such line), 4. It is lent nothing to write.
unfoldable pub scan_of : List ℕ → Shape → ℕ → ℕ → Checked ScanCounts
scan_of fs sh axis m = and_then (line_of sh axis m) (λ l. check (eqb (length fs) (cells sh)) 4 (passes (scanned fs l)))
