-- `pack_writer::air::put_head` meets its contract. Assumes nothing.
use native.Mathlib.Omega.{arith}
use Rattle.cursor.specs.Steps.{word_bytes}
use Rattle.pack_writer.proofs.Laying.{laid-laid, section-length}
use Rattle.pack_writer.proofs.air.put_head.Goals as goal

pub put_count-third-requires : goal.put_count-third-requires
put_count-third-requires c =
    let l = c.put_section-second.ensures in
    omega (arith, l.behind, l.put.kept.size, section-length c.args.sh c.args.count c.args.used _ c.requires.1 c.requires.2)

pub put_count-requires : goal.put_count-requires
unfolding word_bytes
put_count-requires c =
    let l = c.put_section-second.ensures in
    let m = c.put_count-third.ensures in
    omega (arith, l.behind, l.put.kept.size, m.behind, m.put.kept.size, section-length c.args.sh c.args.count c.args.used _ c.requires.1 c.requires.2)

pub returns : goal.returns
returns c = laid-laid c.put_section-second.ensures (laid-laid c.put_count-third.ensures c.put_count.ensures)
