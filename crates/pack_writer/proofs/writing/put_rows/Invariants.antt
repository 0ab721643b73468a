-- `pack_writer::writing::put_rows` meets its contract. The invariant: the packets of the sent cells before row q are laid. Assumes nothing.
use Prim.Native.Nat.{◌*◌}
use Rattle.pack.specs.Packs.{packets}
use Rattle.pack_writer.specs.Writing.{Laid}
use Rattle.pack_writer.specs.Inner.Writing.{packets_below}
use Rattle.pack_writer.proofs.writing.put_rows.Given as goal

abbrev pub invariant-loop-q : goal.invariant-loop-q
invariant-loop-q l = Laid l.initial.out l.initial.next (packets (packets_below l.h l.cube (l.h.shape.l1 * l.q))) l.out l.next
