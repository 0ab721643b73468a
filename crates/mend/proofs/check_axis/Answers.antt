-- `mend::check_axis` meets its contract: the axis is asked first, then the shape, then the length. Assumes nothing.
use mathlib.Core.Path.{◌≡◌}
use mathlib.Core.Bool.{true}
use mathlib.Core.Logic.{⊎_elim}
use borrow.Author.Tests.{le-leb, lt-leb}
use Rattle.answer.specs.Refusals.{fault_number}
use Rattle.answer.specs.Values.{check, checked, refusal, value_of}
use Rattle.answer.proofs.Values.{value-passed, value-refused, handed-on}
use Rattle.shape.specs.Shapes.{both, within}
use Rattle.shape.proofs.Valid.{within-true}
use Rattle.data.proofs.Checks.{cube-sized-passed, cube-sized-refused}
use Rattle.mend.specs.Mend.{axis_checked}
use Rattle.mend.proofs.check_axis.Goals as goal
use Rattle.mend.proofs.check_axis.Goals.{Else-axis-gt3}

axis-here : (c : Else-axis-gt3) → within 1 3 c.args.axis ≡ true
axis-here c = within-true 1 3 _ c.if-axis-lt1.false c.if-axis-gt3.false

pub returns-then-axis-lt1 : goal.returns-then-axis-lt1
unfolding axis_checked check within both checked value_of refusal fault_number
returns-then-axis-lt1 c =
    ⊎_elim (λ w. rw (lt-leb 1 _ w)) (λ w. rw (le-leb 1 _ w.0, lt-leb _ 3 w.1)) c.then-axis-lt1.either

pub returns-in_err-cube_fits : goal.returns-in_err-cube_fits
unfolding axis_checked check
returns-in_err-cube_fits c =
    rw (axis-here (goal.at.returns-in_err-cube_fits c).Else-axis-gt3)
    (handed-on _ _ _ c.from_residual.ensures.1 (cube-sized-refused _ _ _ (value-refused _ _ _ c.cube_fits.ensures c.in_err-cube_fits.was)))

pub returns : goal.returns
unfolding axis_checked check checked value_of
returns c =
    rw (
      axis-here (goal.at.returns c).Else-axis-gt3,
      cube-sized-passed _ _ _ (value-passed _ _ _ c.cube_fits.ensures c.in_ok-cube_fits.was),
    )
