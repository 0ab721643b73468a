-- Document 01, "Programs": of an input the first 65,537 bytes are read, and the text of what came of them is written.
use Rattle.std.specs.Prelude.{List, ℕ, take, Option, IfSome}
use Rattle.std.specs.Io.KnownBytes.{Appends}
use Rattle.receive.specs.declared.receiving.Outcome.{Outcome}
use Rattle.receive.specs.Outcomes.{InputOutcome}
use Rattle.receive.specs.Printed.{printed}

-- what Receive prints for the bytes that it read
pub data Prints (p : List ℕ) : List ℕ → Type 0 where
  text : (fs bs : List ℕ) (o : Outcome) → InputOutcome p fs bs o → Prints p (printed fs bs o)

-- Where the bytes that a reader has left are known, and those that a writer holds before and after, the latter grow by what is printed.
abbrev pub Writes : Option (List ℕ) → Option (List ℕ) → Option (List ℕ) → Type 0
Writes input before after = IfSome input (λ p. (out : List ℕ) × Prints (take 65537 p) out × Appends before after out)
