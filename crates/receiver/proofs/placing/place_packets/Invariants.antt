-- `place_packets` goes from run to run: packets that are the first of their cells, then repeats, which are counted.
use mathlib.Core.Path.{◌≡◌}
use mathlib.Core.Bool.{true}
use Prim.Native.Nat.{◌-◌, ◌≤◌}
use Rattle.pack.specs.Packets.{source}
use Rattle.receiver.specs.Placing.{repeats_of}
use Rattle.receiver.specs.Inner.Placing.{Marked, Stops}
use Rattle.receiver.proofs.placing.place_packets.Given as goal

abbrev pub invariant-loop-i : goal.invariant-loop-i
invariant-loop-i l =
    (l.i ≤ l.packets.section.count) × Marked l.packets.header (source l.packets.bytes.now l.packets.header l.packets.section) l.i l.cube l.flags × (l.repeats ≡ repeats_of (source l.packets.bytes.now l.packets.header l.packets.section) l.i) × Stops (source l.packets.bytes.now l.packets.header l.packets.section) l.packets.section.count l.i true

abbrev pub decreases-loop-i : goal.decreases-loop-i
decreases-loop-i l = l.packets.section.count - l.i
