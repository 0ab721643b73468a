-- `peel::on_line::flag_holes` gives the missing cells of neighbouring lines flag 3, line after line.
use Rattle.peel.specs.Inner.OnLine.{Flagged}
use Rattle.peel.proofs.on_line.flag_holes.Given as goal

abbrev pub invariant-loop-q : goal.invariant-loop-q
invariant-loop-q l = Flagged l.sh l.line.first l.line.stride l.q l.e.first l.e.last l.initial.flags l.initial.marks l.flags l.marks
