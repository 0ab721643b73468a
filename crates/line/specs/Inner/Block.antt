-- Runs of lines cut into blocks, and what becomes of a block: what `block` and the kernels `strip` and `wide` owe one another.
use Rattle.std.specs.Prelude.{◌≡◌, List, ℕ, ◌+◌, ◌-◌, ◌*◌, ◌≤◌, ◌<◌, min, length, get_or}
use Rattle.line.specs.declared.Run.{Run}
use Rattle.line.specs.declared.Erasures.{Erasures}
use Rattle.line.specs.Line.{syndrome0, syndrome1}
use Rattle.line.specs.Run.{line_at, Off}
use Rattle.field.specs.Field.{add, mul}

-- the w neighbouring lines of a run from line a on
unfoldable pub part : Run → ℕ → ℕ → Run
part run a w =
    record { first = run.first + a; stride = run.stride; len = run.len; width = w }

-- the first w lines of a run
unfoldable pub front : Run → ℕ → Run
front run w = record { first = run.first; stride = run.stride; len = run.len; width = w }

-- the first n places of a run's lines
unfoldable pub places : Run → ℕ → Run
places run n = record { first = run.first; stride = run.stride; len = n; width = run.width }

-- no wider than the kernels have room for
abbrev pub IsBlock : Run → Type 0
IsBlock run = run.width ≤ 4096

-- `next` is a block of at most 4096 lines of the run, from line a on: at least 64, or all that are left.
pub record Block (run : Run) (a : ℕ) (next : Run) : Type 0 where
  pub lines : next ≡ part run a next.width
  pub some_line : 0 < next.width
  pub enough_lines : min 64 (run.width - a) ≤ next.width
  pub few_lines : next.width ≤ 4096
  pub within : a + next.width ≤ run.width

-- `next` is a block of at most 4096 lines of the run that reaches over line a and may begin before it.
pub record Cover (run : Run) (a : ℕ) (next : Run) : Type 0 where
  pub start : ℕ
  pub lines : next ≡ part run start next.width
  pub begins : start ≤ a
  pub ends : a < start + next.width
  pub few_lines : next.width ≤ 4096
  pub within : start + next.width ≤ run.width

-- 64 bytes from the first byte of each place on lie inside a list of n bytes, whether or not the run has as many lines.
unfoldable pub Roomy : Run → ℕ → Type 0
Roomy run n = (i : ℕ) → i < run.len → run.first + run.stride * i + 64 ≤ n

-- s0 and s1 hold the syndromes of the run's lines.
pub record Syndromes (r : ℕ) (run : Run) (s s0 s1 : List ℕ) : Type 0 where
  pub first : (t : ℕ) → t < run.width → get_or s0 t 0 ≡ syndrome0 (line_at s run t) run.len
  pub second : (t : ℕ) → t < run.width → get_or s1 t 0 ≡ syndrome1 r (line_at s run t) run.len

-- Every place from the erasure j on is erased, and it is not the first.
pub record ToEnd (run : Run) (e : Erasures) : Type 0 where
  pub some_place : 0 < e.j
  pub last : e.k + 1 ≡ run.len
  pub two : run.len ≤ e.j + 2

-- Both erasures of each line, written from the syndromes in s0 and s1.
pub record Combined (r : ℕ) (run : Run) (e : Erasures) (s0 s1 before after : List ℕ) : Type 0 where
  pub size : length after ≡ length before
  pub kept : (p : ℕ) → Off run e.j p → Off run e.k p → get_or after p 0 ≡ get_or before p 0
  pub later :
      (t : ℕ) → t < run.width →
      line_at after run t e.k ≡ add (mul r (get_or s0 t 0) e.b) (mul r (get_or s1 t 0) e.d)
  pub earlier :
      e.j < e.k → (t : ℕ) → t < run.width →
      line_at after run t e.j ≡ add (get_or s0 t 0) (line_at after run t e.k)

-- Both erasures of each line of `run`, written from the syndromes of the lines of `read`.
pub record Combining (r : ℕ) (read run : Run) (e : Erasures) (before after : List ℕ) : Type 0 where
  pub s0 : List ℕ
  pub s1 : List ℕ
  pub syndromes : Syndromes r read before s0 s1
  pub combined : Combined r run e s0 s1 before after
