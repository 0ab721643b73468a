-- `pack_writer::air::put_section` meets its contract. Assumes nothing.
use mathlib.Core.List.{append-nil}
use native.Mathlib.Omega.{arith}
use borrow.Author.Tests.{eq-eqb, ne_eqb}
use Rattle.cursor.specs.Steps.{word_bytes}
use Rattle.pack.specs.Packs.{shape_bytes, section_one}
use Rattle.pack_writer.proofs.Laying.{laid-laid}
use Rattle.pack_writer.proofs.air.put_section.Goals as goal

pub put_shape-behind-requires : goal.put_shape-behind-requires
unfolding word_bytes
put_shape-behind-requires c =
    let l = c.put_count-body.ensures in
    (c.requires.0, omega (arith, l.behind, l.put.kept.size, c.requires.1))

pub put_count-requires : goal.put_count-requires
unfolding word_bytes shape_bytes
put_count-requires c =
    let l = c.put_count-body.ensures in
    let m = c.put_shape-behind.ensures in
    omega (arith, l.behind, l.put.kept.size, m.behind, m.put.kept.size, c.requires.2 c.if-count-eq9.true)

pub returns-then-count-eq9 : goal.returns-then-count-eq9
unfolding section_one
returns-then-count-eq9 c =
    rw (eq-eqb _ _ c.if-count-eq9.true)
    (laid-laid c.put_count-body.ensures (laid-laid c.put_shape-behind.ensures c.put_count.ensures))

pub returns-else-count-eq9 : goal.returns-else-count-eq9
unfolding section_one
returns-else-count-eq9 c =
    let none = ne_eqb _ _ c.if-count-eq9.false in
    rw (none, append-nil (shape_bytes c.args.sh)) (laid-laid c.put_count-body.ensures c.put_shape-behind.ensures)
