-- `mend::passes::first_pass` meets its contract. The invariant: the rows below m of the second cube are the corrected rows of the first. Assumes
-- nothing.
use mathlib.Core.Path.{◌∙◌}
use native.Mathlib.Omega.{arith}
use Rattle.mend.proofs.Rows.{row_run, row-end, row_inside, rows_more, rows_all}
use Rattle.mend.proofs.passes.first_pass.Goals as goal

pub loop-m-preserved : goal.loop-m-preserved
unfolding row_run
loop-m-preserved c =
    let (pre, _) = c.requires in
    let less = c.loop-m-test.true in
    let through = c.loop-m.invariant in
    let inside = row-end c.args.sh c.loop-m.m less in
    let copied = (c.copy.ensures.done (omega (arith, inside, pre.size), omega (arith, inside, pre.size, through.size))).1 in
    let size = copied.kept.size ∙ through.size ∙ pre.size in
    rows_more _ _ _ _ _ _ _ _ through copied (c.correct.ensures.done (rw size (row_inside _ _ pre.valid less))).1

pub returns : goal.returns
returns c = rows_all _ _ _ _ _ c.loop-m-test.false c.loop-m.invariant
