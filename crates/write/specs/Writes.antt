-- Document 01, "Programs": of an input the first 65,537 bytes are read, and what Write prints for them is written.
use Rattle.std.specs.Prelude.{List, ℕ, take, Option, IfSome}
use Rattle.std.specs.Io.KnownBytes.{Appends}
use Rattle.write.specs.Prints.{Prints}

-- Where the bytes that a reader has left are known, and those that a writer holds before and after, the latter grow by what is printed.
abbrev pub Writes : Option (List ℕ) → Option (List ℕ) → Option (List ℕ) → Type 0
Writes input before after = IfSome input (λ p. (out : List ℕ) × Prints (take 65537 p) out × Appends before after out)
