-- What the private functions of the crate owe one another.
use Rattle.std.specs.Prelude.{◌≡◌, List, ℕ, ◌+◌, ◌*◌, ◌≤◌, ◌<◌, length, get_or}
use Rattle.line.specs.declared.Run.{Run}
use Rattle.line.specs.Line.{Codeword}
use Rattle.line.specs.Run.{line_at}
use Rattle.rows.specs.Rows.{behind}

-- line u of the lines that begin `gap` bytes one behind the other, the first of them that of a run
unfoldable pub lane : List ℕ → Run → ℕ → ℕ → ℕ → ℕ
lane s run gap u i = get_or s (run.first + run.stride * i + gap * u) 0

-- the bytes of 64 such lines lie inside a list of n bytes
abbrev pub Within : Run → ℕ → ℕ → Type 0
Within run gap n = (i : ℕ) → i < run.len → run.first + run.stride * i + gap * 63 < n

-- the lines are codewords
abbrev pub LanesRight : ℕ → Run → ℕ → List ℕ → Type 0
LanesRight r run gap s = (u : ℕ) → u < 64 → Codeword r (lane s run gap u) run.len

-- c is the 64 bytes from `at` on, `gap` bytes from one to the next
pub record Gathered (s : List ℕ) (at gap : ℕ) (c : List ℕ) : Type 0 where
  pub size : length c ≡ 64
  pub bytes : (u : ℕ) → u < 64 → get_or c u 0 ≡ get_or s (at + gap * u) 0

-- the lines of the rows from one number up to another are codewords
abbrev pub RowsRight : ℕ → Run → ℕ → ℕ → ℕ → List ℕ → Type 0
RowsRight r run gap lo hi s =
    (q : ℕ) → lo ≤ q → q < hi → (t : ℕ) → t < run.width → Codeword r (line_at s (behind run (gap * q)) t) run.len
