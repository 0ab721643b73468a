-- `line::wide::fours` takes Horner's steps by four places a turn.
use mathlib.Core.Path.{◌≡◌}
use Prim.Native.Nat.{◌%◌, ◌≤◌}
use lib.ListN.{length}
use Rattle.line.specs.Inner.Wide.{Tails}
use Rattle.line.proofs.wide.fours.Given as goal

abbrev pub invariant-loop-left : goal.invariant-loop-left
invariant-loop-left g l =
    (l.left ≤ l.run.len)
    × (l.left % 4 ≡ 0)
    × (length l.sums.first ≡ length l.initial.sums.first)
    × (length l.sums.second ≡ length l.initial.sums.second)
    × Tails l.reduction l.run l.left l.s l.sums.first l.sums.second

abbrev pub decreases-loop-left : goal.decreases-loop-left
decreases-loop-left g l = l.left
