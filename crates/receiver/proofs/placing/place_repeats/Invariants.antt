-- `place_repeats` goes from packet to packet as long as each is a repeat.
use Rattle.pack.specs.Packets.{source}
use Rattle.receiver.specs.Inner.Placing.{Run}
use Rattle.receiver.proofs.placing.place_repeats.Given as goal

abbrev pub invariant-loop-i : goal.invariant-loop-i
invariant-loop-i l = Run l.packets.header (source l.packets.bytes.now l.packets.header l.packets.section) l.packets.section.count l.from l.i l.cube l.flags 1
