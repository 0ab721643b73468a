-- `line::encoder::place_strip` copies the data places of 64 lines from the last to the first, and takes Horner's step by each.
use mathlib.Core.Path.{◌≡◌}
use lib.ListN.{length}
use Rattle.line.specs.Inner.Wide.{Tails}
use Rattle.line.proofs.Encoding.{Between}
use Rattle.line.proofs.encoder.place_strip.Given as goal

abbrev pub invariant-loop-i : goal.invariant-loop-i
invariant-loop-i l =
    Between l.i l.from.len l.from l.to l.data l.initial.s l.s
    × (length l.sums.first ≡ 64)
    × (length l.sums.second ≡ 64)
    × Tails l.reduction l.from l.i l.data l.sums.first l.sums.second
