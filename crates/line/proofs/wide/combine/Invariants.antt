-- `line::wide::combine` writes both erasures of each line from its syndromes.
use lib.ListN.{get_or}
use Rattle.field.specs.Field.{add, mul}
use Rattle.line.proofs.TwoStrips.{Strips}
use Rattle.line.proofs.wide.combine.Given as goal

abbrev pub invariant-loop-t : goal.invariant-loop-t
invariant-loop-t g l =
    Strips l.at_j l.at_k l.fn.run.width l.t (λ i. get_or l.sums.first i 0) (λ i. add (mul l.reduction (get_or l.sums.first i 0) l.e.b) (mul l.reduction (get_or l.sums.second i 0) l.e.d)) l.initial.s l.s
