-- `line::wide::one` takes one of Horner's steps for each line.
use Prim.Native.Nat.{◌+◌}
use lib.ListN.{get_or}
use Rattle.field.specs.Field.{add, xtime}
use Rattle.strip.proofs.Updated.{Updated}
use Rattle.line.proofs.wide.one.Given as goal

abbrev pub invariant-loop-t : goal.invariant-loop-t
invariant-loop-t g l =
    Updated (λ p x. add x (get_or l.s (l.at + p) 0)) 0 l.t l.initial.sums.first l.sums.first
    × Updated (λ p x. add (xtime l.reduction x) (get_or l.s (l.at + p) 0)) 0 l.t l.initial.sums.second l.sums.second
