-- `cube::checker::lines_right` meets its contract: the lines between two numbers are runs, one behind the other. Assumes nothing.
use Rattle.answer.proofs.Values.{value-passed, value-refused}
use native.Mathlib.Omega.{arith}
use Rattle.span.proofs.Decision.{decides-yes, decides-map}
use Rattle.cube.proofs.AxisRuns.{Begins, begins, lines-ended, run_from}
use Rattle.cube.proofs.RightLines.{right-none, right-fewer}
use Rattle.cube.proofs.RightRows.{rows-between, between-rows, run_small}
use Rattle.cube.proofs.checker.lines_right.Goals as goal
use Rattle.cube.proofs.checker.lines_right.Goals.{In-Ok}

-- the line found begins a block
line-here : (c : In-Ok)
    → let a = c.args in
    Begins a.sh a.axis a.from c.in-Ok.l
line-here c =
    begins _ _ _ _ (value-passed _ _ _ c.axis_line.ensures c.in-Ok.is) c.requires.2.begins

-- no line is left
pub returns-in_default : goal.returns-in_default
returns-in_default c =
    let pre = c.requires in
    let ended = lines-ended _ _ _ _ pre.0.valid pre.1.0 pre.1.1 (value-refused _ _ _ c.axis_line.ensures c.in_default.is) in
    decides-yes (right-fewer _ _ _ _ _ _ _ _ (omega arith) (omega (arith, ended, pre.2.within)) (right-none _ _ _ _ c.args.from))

pub overflow_mul-run : goal.overflow_mul-run
overflow_mul-run c = omega (arith, (line-here (goal.at.overflow_mul-run c).In-Ok).first_small)

pub overflow_mul-block : goal.overflow_mul-block
overflow_mul-block c = omega (arith, (line-here (goal.at.overflow_mul-block c).In-Ok).stride_small)

pub overflow_mul-block-2 : goal.overflow_mul-block-2
overflow_mul-block-2 c =
    let here = line-here (goal.at.overflow_mul-block-2 c).In-Ok in
    omega (arith, run_small _ _ _ here.inside, c.requires.0.valid.volume)

pub overflow_sub-to : goal.overflow_sub-to
overflow_sub-to c = c.requires.2.ordered

pub nonzero_div-to : goal.nonzero_div-to
nonzero_div-to c = (line-here (goal.at.nonzero_div-to c).In-Ok).some_stride

pub codewords-requires : goal.codewords-requires
codewords-requires c = tt

pub returns : goal.returns
unfolding run_from
returns c =
    let pre = c.requires in
    let found = value-passed _ _ _ c.axis_line.ensures c.in-Ok.is in
    decides-map (rows-between _ _ _ _ _ _ _ found pre.0.size pre.2) (between-rows _ _ _ _ _ _ _ found pre.0.size pre.2) c.codewords.ensures
