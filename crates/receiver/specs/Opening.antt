-- Opening (document 01, "Packs"), the receiver's second half: the file that a whole cube's data string holds.
use Rattle.std.specs.Prelude.{◌≡◌, List, ◌++◌, ◌≢◌, ℕ, ◌+◌, ◌-◌, ◌≤◌, ◌<◌, length, get_or, drop}
use Rattle.shape.specs.declared.Shape.{Shape}
use Rattle.shape.specs.Shapes.{capacity}
use Rattle.data.specs.Data.{held_data}
use Rattle.cursor.specs.Steps.{word}
use Rattle.pack.specs.Packs.{data_string}
use Rattle.answer.specs.Values.{Value, gives, refused}

-- 14: "the length held is above capacity - 4, or a later byte is not 00h"
pub data BadFile (sh : Shape) (ds : List ℕ) : Type 0 where
  long : capacity sh - 4 < word ds 0 → BadFile sh ds
  later : (q : ℕ) → 4 + word ds 0 ≤ q → q < capacity sh → get_or ds q 0 ≢ 0 → BadFile sh ds

-- What opening the cube xs gives, a length or 14, and leaves in the file buffer: the file's "bytes begin the file buffer, whose other bytes keep
-- their values". "The file buffer never changes on a refusal."
pub data OpenOutcome (sh : Shape) (xs bs bs' : List ℕ) : Value ℕ → Type 0 where
  held :
      (file : List ℕ) → length file ≤ capacity sh - 4 → held_data sh xs ≡ data_string sh file →
      bs' ≡ file ++ drop (length file) bs → OpenOutcome sh xs bs bs' (gives (length file))
  bad : BadFile sh (held_data sh xs) → bs' ≡ bs → OpenOutcome sh xs bs bs' (refused 14)
