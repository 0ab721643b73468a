-- Rows: runs of one form, each `gap` bytes behind the one before.
use Rattle.std.specs.Prelude.{List, ℕ, ◌+◌, ◌*◌, ◌<◌}
use Rattle.line.specs.declared.Run.{Run}
use Rattle.line.specs.Run.{AllCodewords}

-- the run that begins so many bytes behind another
unfoldable pub behind : Run → ℕ → Run
behind run bytes =
    record { first = run.first + bytes; stride = run.stride; len = run.len; width = run.width }

-- Each of `count` runs lies inside the bytes s, and all its lines are codewords.
abbrev pub AllRows : ℕ → Run → ℕ → ℕ → List ℕ → Type 0
AllRows r run gap count s = (q : ℕ) → q < count → AllCodewords r (behind run (gap * q)) s
