-- `line::encoder::place` copies the data places of every line, one after the other.
use Rattle.line.proofs.Encoding.{Between}
use Rattle.line.proofs.encoder.place.Given as goal

abbrev pub invariant-loop-i : goal.invariant-loop-i
invariant-loop-i l =
    Between 0 l.i l.from l.to l.data l.initial.s l.s
