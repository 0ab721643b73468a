-- `pack_writer::writing::put_run` meets its contract. The invariant: the packets of the cells before place a are laid. Assumes nothing.
use Prim.Native.Nat.{◌+◌, ◌-◌, ◌*◌}
use Rattle.pack.specs.Packs.{packets}
use Rattle.pack_writer.specs.Writing.{Laid}
use Rattle.pack_writer.specs.Inner.Writing.{packets_from}
use Rattle.pack_writer.proofs.writing.put_run.Given as goal

abbrev pub invariant-loop-a : goal.invariant-loop-a
invariant-loop-a l = Laid l.initial.out l.initial.next (packets (packets_from l.sh l.cube (l.sh.l1 * l.q + l.from) (l.a - l.from))) l.out l.next
