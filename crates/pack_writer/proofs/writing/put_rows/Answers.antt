-- `pack_writer::writing::put_rows` meets its contract. The invariant: the packets of the sent cells before row q are laid. Assumes nothing.
use mathlib.Core.Path.{refl}
use native.Mathlib.Omega.{arith}
use Rattle.pack_writer.proofs.Rows.{below_none, below_put, rows-room, rows_more}
use Rattle.pack_writer.proofs.writing.put_rows.Goals as goal

pub loop-q-init : goal.loop-q-init
loop-q-init c = below_none _ _ _ _

pub put_row-next-requires : goal.put_row-next-requires
put_row-next-requires c =
    (c.requires.0, c.loop-q-test.true, c.requires.1, rows-room c.args.h c.args.cube.now c.requires.0 c.requires.1 _ c.loop-q-test.true c.requires.2 c.loop-q.invariant)

pub loop-q-preserved : goal.loop-q-preserved
loop-q-preserved c = rows_more c.args.h c.args.cube.now c.requires.0 c.requires.1 _ c.loop-q-test.true _ refl c.loop-q.invariant c.put_row-next.ensures

pub returns : goal.returns
returns c = below_put c.args.h c.args.cube.now _ (omega arith) c.loop-q.invariant
