-- `erasures::look` counts the missing cells of a line up to the third, and finds the first and the last of them and the places read.
use mathlib.Core.Path.{◌≡◌}
use Prim.Native.Nat.{◌<◌}
use Rattle.shape.specs.Flags.{missing}
use Rattle.erasures.specs.Scan.{places_read}
use Rattle.erasures.specs.Erasures.{Scanned}
use Rattle.erasures.proofs.look.Given as goal

abbrev pub invariant-loop-i : goal.invariant-loop-i
invariant-loop-i l =
    record {
      few : l.e.count < 3;
      scanned : Scanned (missing l.flags) l.first l.stride l.i l.e.count l.e.first l.e.last;
      so_far : l.i ≡ places_read (missing l.flags) l.first l.stride l.i;
      whole : l.e.read ≡ l.len;
    }
