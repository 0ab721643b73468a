-- `pack_writer::writing::write_sections` meets its contract. Assumes nothing.
use Rattle.answer.proofs.Values.{value-passed}
use native.Mathlib.Omega.{arith}
use Rattle.pack.proofs.Sound.{sent-not, sent-passed}
use Rattle.pack_writer.proofs.Laying.{sections-laid, head-room, rows-room}
use Rattle.pack_writer.proofs.writing.write_sections.Goals as goal

pub returns-in_default : goal.returns-in_default
returns-in_default c = absurd (sent-not _ c.requires.0 _ c.sent_cells.ensures _ c.in_default.is)

pub put_head-first-requires : goal.put_head-first-requires
put_head-first-requires c =
    let (few, many) = head-room c.args.h c.requires.0 in
    (c.requires.0.valid, omega (arith, few, c.requires.2), λ nine. omega (arith, many nine, c.requires.2))

pub put_rows-requires : goal.put_rows-requires
put_rows-requires c =
    let n = (sent-passed _ _ (value-passed _ _ _ c.sent_cells.ensures c.in-Ok.is)).1 in
    (c.requires.0, c.requires.1, rows-room c.args.h c.requires.0 _ n c.put_head-first.ensures c.requires.2)

pub returns : goal.returns
returns c =
    let n = (sent-passed _ _ (value-passed _ _ _ c.sent_cells.ensures c.in-Ok.is)).1 in
    sections-laid c.args.h c.args.cube.now _ c.requires.0 n c.requires.1 c.requires.2 c.put_head-first.ensures c.put_rows.ensures
