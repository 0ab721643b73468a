-- Runs: neighbouring lines of one length in a list of bytes. Place i of line t is the byte first + stride * i + t.
use Rattle.std.specs.Prelude.{◌≡◌, Bool, List, ◌⊎◌, ℕ, ◌+◌, ◌*◌, ◌≤◌, ◌<◌, length, get_or}
use Rattle.span.specs.Decision.{Decides, Guarded}
use Rattle.line.specs.declared.Run.{Run}
use Rattle.line.specs.declared.Erasures.{Erasures}
use Rattle.solver.specs.Solver.{row0, row1}
use Rattle.line.specs.Line.{Codeword, syndrome0, syndrome1, erased, with_parity, corrected}
use Rattle.field.specs.Field.{add, mul}

-- line t of a run
unfoldable pub line_at : List ℕ → Run → ℕ → ℕ → ℕ
line_at s run t i = get_or s (run.first + run.stride * i + t) 0

-- The run lies inside a list of n bytes: 1 to 255 places, which do not overlap.
pub record Inside (run : Run) (n : ℕ) : Type 0 where
  pub some_place : 0 < run.len
  pub few_places : run.len ≤ 255
  pub apart : run.width ≤ run.stride
  pub fits : (i : ℕ) → i < run.len → run.first + run.stride * i + run.width ≤ n

-- the byte p is not one of the run's bytes at place i
unfoldable pub Off : Run → ℕ → ℕ → Type 0
Off run i p = (p < run.first + run.stride * i) ⊎ (run.first + run.stride * i + run.width ≤ p)

-- the erasures j and k of a line, with the row of the inverted array that gives the byte at k
unfoldable pub erasures_at : ℕ → ℕ → ℕ → Erasures
erasures_at r j k = record { j = j; k = k; b = row0 r j k; d = row1 r j k }

-- `after` is `before` with the bytes at both erasures of each line computed by the row [b, d], whatever that is, from the syndromes of
-- the line with its erasures read as 00h.
pub record ErasuresWritten (r : ℕ) (run : Run) (e : Erasures) (before after : List ℕ) : Type 0 where
  pub size : length after ≡ length before
  pub kept : (p : ℕ) → Off run e.j p → Off run e.k p → get_or after p 0 ≡ get_or before p 0
  pub later :
      (t : ℕ) → t < run.width →
      line_at after run t e.k ≡
      add (mul r (syndrome0 (erased e.j e.k (line_at before run t)) run.len) e.b)
      (mul r (syndrome1 r (erased e.j e.k (line_at before run t)) run.len) e.d)
  pub earlier :
      e.j < e.k → (t : ℕ) → t < run.width →
      line_at after run t e.j ≡
      add (syndrome0 (erased e.j e.k (line_at before run t)) run.len) (line_at after run t e.k)

-- The run lies inside a list of n bytes, and j ≤ k are places of its lines.
abbrev pub Erasable : Run → Erasures → ℕ → Type 0
Erasable run e n = (Inside run n) × (e.j ≤ e.k) × (e.k < run.len)

-- What `solve` answers and leaves: the lines written where the run lies inside and j ≤ k are places of it.
abbrev pub SolveRun : ℕ → Run → Erasures → List ℕ → List ℕ → Bool → Type 0
SolveRun r run e before after answer =
    Guarded (Erasable run e (length before)) (ErasuresWritten r run e before after) before after answer

-- `from` holds the data places of the lines of `to`: all but their last two.
pub record Feeds (from to : Run) (n : ℕ) : Type 0 where
  pub inside : Inside from n
  pub places : from.len + 2 ≡ to.len
  pub lines : from.width ≡ to.width

-- `after` is `before` with each line of `to` the line of `from` in the data, with parity.
pub record Encoded (r : ℕ) (from to : Run) (ds before after : List ℕ) : Type 0 where
  pub size : length after ≡ length before
  pub kept : (p : ℕ) → ((i : ℕ) → i < to.len → Off to i p) → get_or after p 0 ≡ get_or before p 0
  pub lines :
      (t : ℕ) → t < to.width → (i : ℕ) → i < to.len →
      line_at after to t i ≡ with_parity r to.len (line_at ds from t) i

-- What `encode` answers and leaves: the lines with parity where the run lies inside and is fed.
abbrev pub EncodeRun : ℕ → Run → Run → List ℕ → List ℕ → List ℕ → Bool → Type 0
EncodeRun r from to ds before after answer =
    Guarded (Inside to (length before) × Feeds from to (length ds)) (Encoded r from to ds before after) before after answer

-- each line of the run is a codeword
abbrev pub Codewords : ℕ → Run → List ℕ → Type 0
Codewords r run s = (t : ℕ) → t < run.width → Codeword r (line_at s run t) run.len

-- The run lies inside the bytes s, and each of its lines is a codeword.
pub record AllCodewords (r : ℕ) (run : Run) (s : List ℕ) : Type 0 where
  pub inside : Inside run (length s)
  pub lines : Codewords r run s

-- What `codewords` answers.
abbrev pub CheckRun : ℕ → Run → List ℕ → Bool → Type 0
CheckRun r run s answer = Decides (AllCodewords r run s) answer

-- `after` is `before` with every line of the run corrected.
pub record Corrected (r : ℕ) (run : Run) (before after : List ℕ) : Type 0 where
  pub size : length after ≡ length before
  pub kept : (p : ℕ) → ((i : ℕ) → i < run.len → Off run i p) → get_or after p 0 ≡ get_or before p 0
  pub lines :
      (t : ℕ) → t < run.width → (i : ℕ) → i < run.len →
      line_at after run t i ≡ corrected r run.len (line_at before run t) i

-- What `correct` answers and leaves: the lines corrected where the run lies inside.
abbrev pub CorrectRun : ℕ → Run → List ℕ → List ℕ → Bool → Type 0
CorrectRun r run before after answer =
    Guarded (Inside run (length before)) (Corrected r run before after) before after answer
