-- What the private functions need of memory: each part of it has 65,536 bytes, and an outcome's texts lie in such a part.
use Rattle.std.specs.Prelude.{◌≡◌, List, ℕ, ◌≤◌, length}
use Rattle.shape.specs.Shapes.{Valid}
use Rattle.receive.specs.declared.receiving.Report.{Report}
use Rattle.receive.specs.declared.receiving.Outcome.{Outcome}
use Rattle.receive.specs.declared.receiving.Outcome.TheVariants.{Came}
use Rattle.receive.specs.Printed.{texts}

-- the bytes that the program has for a cube, for flags, for a file or for what it writes
abbrev pub IsMemory : List ℕ → Type 0
IsMemory xs = length xs ≡ 65536

pub record Room (r : Report) : Type 0 where
  pub valid : Valid r.shape
  pub texts_fit : texts (Came r) ≤ 65536

-- what came of a pack that is not refused
abbrev pub Fits : Outcome → Type 0
Fits o = (r : Report) → o ≡ Came r → Room r
