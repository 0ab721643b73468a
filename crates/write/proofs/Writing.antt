-- From the bytes that were read and those that were written to what the program does to its reader and its writer.
use Rattle.std.proofs.Common.{◌≡◌, List, ℕ, take, OnOk}
use Rattle.std.specs.Prelude.{Option, None, Some, IfSome, Result, Ok, Err}
use Rattle.std.specs.Option.{option_map}
use Rattle.std.specs.Io.KnownBytes.{Appends}
use Rattle.write.specs.Prints.{Prints}
use Rattle.write.specs.Writes.{Writes}

pub output-written : {T E : Type 0} (r : Result T E) (input before after : Option (List ℕ)) (p out : List ℕ)
    → IfSome (option_map (take 65537) input) (λ xs. p ≡ xs) → Prints p out → OnOk r (Appends before after out)
    → OnOk r (Writes input before after)
output-written (Err _) input before after p out e q a = tt
output-written (Ok _) None before after p out e q a = tt
output-written (Ok _) (Some xs) before after p out e q a = (out, rw e at q, a)
