-- `text::scan::scan_packets` meets its contract: the lines passed are those of a list of packets.
use Prim.Native.Nat.{◌-◌}
use lib.ListN.{length}
use Rattle.text.proofs.FirstTurn.{SoFar}
use Rattle.text.proofs.scan.scan_packets.Given as goal

abbrev pub invariant-loop-at : goal.invariant-loop-at
invariant-loop-at l = SoFar l.text l.sh l.lines l.at l.n l.inside

abbrev pub decreases-loop-at : goal.decreases-loop-at
decreases-loop-at l = length l.text - l.at
