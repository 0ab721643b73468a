-- `mend::passes::pass` meets its contract. The invariant: m is a multiple of the stride, and the cube is the one after the runs of the lines
-- below m. Assumes nothing.
use Rattle.answer.proofs.Values.{value-passed, value-refused}
use mathlib.Core.Path.{◌∙◌}
use native.Mathlib.Omega.{arith}
use Rattle.cube.proofs.AxisRuns.{Begins, begins, lines-ended, run_from}
use Rattle.mend.proofs.Correction.{through-more, through-all}
use Rattle.mend.proofs.passes.pass.Goals as goal
use Rattle.mend.proofs.passes.pass.Goals.{In-Ok}

-- the line found is the first of a block
line-here : (c : In-Ok)
    → let a = c.args in
    Begins a.sh a.axis c.loop-l.m c.in-Ok.l
line-here c =
    begins _ _ _ _ (value-passed _ _ _ c.axis_line.ensures c.in-Ok.is)
    c.loop-l.invariant.0

pub returns : goal.returns
returns c =
    let (pre, on) = c.requires in
    through-all _ _ _ _ _ _ pre.valid
    (lines-ended _ _ _ _ pre.valid on.0 on.1 (value-refused _ _ _ c.axis_line.ensures c.in_default.is))
    c.loop-l.invariant.2

pub overflow_mul-run : goal.overflow_mul-run
overflow_mul-run c = omega (arith, (line-here (goal.at.overflow_mul-run c).In-Ok).first_small)

pub overflow_mul-run-in-Ok : goal.overflow_mul-run-in-Ok
overflow_mul-run-in-Ok c = omega (arith, (line-here (goal.at.overflow_mul-run-in-Ok c).In-Ok).stride_small)

pub overflow_mul-run-in-Ok-2 : goal.overflow_mul-run-in-Ok-2
overflow_mul-run-in-Ok-2 c = omega (arith, (line-here (goal.at.overflow_mul-run-in-Ok-2 c).In-Ok).stride_small)

pub overflow_add-m : goal.overflow_add-m
overflow_add-m c = omega (arith, (line-here (goal.at.overflow_add-m c).In-Ok).next_small)

pub loop-l-smaller : goal.loop-l-smaller
loop-l-smaller c = let here = line-here (goal.at.loop-l-smaller c).In-Ok in omega (arith, here.next, here.some_stride)

pub loop-l-preserved : goal.loop-l-preserved
unfolding run_from
loop-l-preserved c =
    let here = line-here (goal.at.loop-l-preserved c).In-Ok in
    let outcome = c.correct.ensures in
    let inv = c.loop-l.invariant in
    let size = inv.2.size ∙ c.requires.0.size in
    (here.next_aligned, here.next, through-more _ _ _ _ _ _ here _ _ inv.2 (outcome.done (rw size here.inside)).1)
