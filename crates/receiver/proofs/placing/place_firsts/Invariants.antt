-- `place_firsts` goes from packet to packet as long as each is the first of its cell.
use Rattle.pack.specs.Packets.{source}
use Rattle.receiver.specs.Inner.Placing.{Run}
use Rattle.receiver.proofs.placing.place_firsts.Given as goal

abbrev pub invariant-loop-i : goal.invariant-loop-i
invariant-loop-i g l = Run l.packets.header (source l.packets.bytes.now l.packets.header l.packets.section) l.packets.section.count l.from l.i l.cube l.flags 0
