-- `rows::lanes` decides whether 64 gathered lines are codewords: whether all their syndromes are 0.
use Rattle.rows.proofs.Horner.{Lanes}
use Rattle.rows.proofs.lanes.Given as goal

abbrev pub invariant-loop-i : goal.invariant-loop-i
invariant-loop-i l = Lanes l.reduction l.run l.gap l.i l.s l.sums.first l.sums.second
