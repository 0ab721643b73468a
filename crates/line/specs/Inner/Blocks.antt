-- What a step over the blocks of a run gives, and what becomes of a block that is widened.
use Rattle.std.specs.Prelude.{◌≡◌, ℕ, ◌+◌, ◌≤◌, Option, MatchOption}
use Rattle.line.specs.declared.Run.{Run}
use Rattle.line.specs.declared.block.Blocks.{Blocks}
use Rattle.line.specs.Inner.Block.{Block, Cover}

-- The next block begins where the lines that are done end, and they end behind it then.
pub record Step (s : Blocks) (b : Run) (t : Blocks) : Type 0 where
  pub block : Block s.run s.done b
  pub run : t.run ≡ s.run
  pub done : t.done ≡ s.done + b.width

-- There is a next block up to the last line.
abbrev pub cuts : Blocks → Option Run → Blocks → Type 0
cuts s r t = MatchOption r (s.run.width ≤ s.done) (λ b. Step s b t)

-- `next` covers the block b, which begins at line a, and ends where it ends.
pub record Widened (run : Run) (a : ℕ) (b next : Run) : Type 0 where
  pub cover : Cover run a next
  pub ends : cover.start + next.width ≡ a + b.width
