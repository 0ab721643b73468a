-- `line::strips::syndromes` gathers both syndromes of 64 lines.
use mathlib.Core.Path.{◌≡◌}
use lib.ListN.{length}
use Rattle.line.specs.Inner.Wide.{Tails}
use Rattle.line.proofs.strips.syndromes.Given as goal

abbrev pub invariant-loop-i : goal.invariant-loop-i
invariant-loop-i l =
    (length l.sums.first ≡ 64) × (length l.sums.second ≡ 64) × Tails l.reduction l.run l.i l.s l.sums.first l.sums.second
