-- `pack_writer::writing::put_run` meets its contract. The invariant: the packets of the cells before place a are laid. Assumes nothing.
use native.Mathlib.Omega.{arith}
use Rattle.pack_writer.proofs.Laying.{run_none, run_room, run_more, run-all}
use Rattle.pack_writer.proofs.Rows.{row-is-cell, row_inside}
use Rattle.pack_writer.proofs.writing.put_run.Goals as goal

pub loop-a-init : goal.loop-a-init
loop-a-init c = run_none _ _ _ _ _ _ (omega arith)

pub put_packet-next-requires : goal.put_packet-next-requires
put_packet-next-requires c =
    let inside = row_inside c.args.sh c.requires.0 c.args.q c.requires.1 in (
      c.requires.0,
      omega (arith, inside, c.requires.3, c.loop-a-test),
      c.requires.4,
      run_room c.args.sh c.args.cube.now c.requires.4 _ _ _ (omega (arith, inside, c.requires.3, c.loop-a-test)) (omega (arith, c.loop-a-test)) c.requires.5 c.loop-a.invariant,
      row-is-cell c.args.sh c.requires.0 c.args.q c.requires.1 _ (omega (arith, c.requires.3, c.loop-a-test)),
    )

pub loop-a-preserved : goal.loop-a-preserved
loop-a-preserved c =
    let low = c.loop-a.auto.a in
    run_more _ _ _ _ _ _ (omega (arith, low)) (omega (arith, low)) c.loop-a.invariant c.put_packet-next.ensures

pub returns : goal.returns
returns c = run-all _ _ _ _ _ (omega arith) c.loop-a.invariant
