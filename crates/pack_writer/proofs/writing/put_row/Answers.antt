-- `pack_writer::writing::put_row` meets its contract. Assumes nothing.
use native.Mathlib.Omega.{arith}
use Rattle.pack_writer.proofs.Rows.{first-room, second-room, row-runs}
use Rattle.pack_writer.proofs.writing.put_row.Goals as goal

pub put_run-parity-requires : goal.put_run-parity-requires
put_run-parity-requires c =
    let (same, few) = c.row_sent.ensures in
    (c.requires.0.valid, c.requires.1, omega arith, omega (arith, few), c.requires.2, first-room c.args.h c.args.q _ same _ _ c.requires.3)

pub put_run-requires : goal.put_run-requires
put_run-requires c =
    let (same, few) = c.row_sent.ensures in (
      c.requires.0.valid,
      c.requires.1,
      omega arith,
      omega arith,
      c.requires.2,
      second-room c.args.h c.args.q _ same c.requires.0 c.requires.1 c.args.cube.now c.requires.2 few c.requires.3 c.put_run-parity.ensures,
    )

pub returns : goal.returns
returns c =
    row-runs c.args.h c.args.q _ c.row_sent.ensures.0 c.requires.0 c.requires.1 c.args.cube.now c.put_run-parity.ensures c.put_run.ensures
