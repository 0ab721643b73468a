-- `shape::axis_of` meets its contract: the axis is asked first, then the shape; each arm of the match is the axis that the definition picks. Assumes
-- nothing.
use mathlib.Core.Path.{◌≡◌, sym, ◌∙◌}
use mathlib.Core.Bool.{true}
use Prim.Native.Nat.{◌<◌}
use native.Mathlib.Omega.{arith}
use borrow.Author.Tests.{lt-leb}
use Rattle.answer.specs.Refusals.{fault_number}
use Rattle.answer.specs.Values.{check, and_then, passes, checked, refusal, value_of}
use Rattle.answer.proofs.Values.{handed-on, then-refused, value-passed, value-refused}
use Rattle.shape.specs.Shapes.{Valid, within, stride_of, length_of, lines_of, shape_checked, axis_of}
use Rattle.shape.proofs.Valid.{area-le, shape-passed, within-parts}
use Rattle.shape.proofs.axis_of.Goals as goal
use Rattle.shape.proofs.axis_of.Goals.{Else-not-within, In_ok-measure}

axis-checked : (c : Else-not-within) → within 1 3 c.args.axis ≡ true
axis-checked c = sym c.within.ensures ∙ c.if-not-within.false

fits : (c : In_ok-measure) → shape_checked c.args.sh ≡ passes c.in_ok-measure.field-0
fits c = value-passed _ _ _ c.measure.ensures c.in_ok-measure.was

valid : (c : In_ok-measure) → Valid c.args.sh
valid c = (shape-passed _ _ (fits c)).0

pub returns-then-not-within : goal.returns-then-not-within
unfolding axis_of value_of refusal fault_number check checked
returns-then-not-within c = rw (sym c.within.ensures ∙ c.if-not-within.true)

pub returns-in_err-measure : goal.returns-in_err-measure
unfolding axis_of check
returns-in_err-measure c =
    rw (axis-checked (goal.at.returns-in_err-measure c).Else-not-within)
    (handed-on _ _ _ c.from_residual.ensures.1 (then-refused _ _ _ (value-refused _ _ _ c.measure.ensures c.in_err-measure.was)))

pub overflow_mul-lines : goal.overflow_mul-lines
overflow_mul-lines c = let v = valid (goal.at.overflow_mul-lines c).In_ok-measure in omega (arith, area-le _ _ v.l2_high v.l3_high)

pub overflow_mul-lines-in-2 : goal.overflow_mul-lines-in-2
overflow_mul-lines-in-2 c = let v = valid (goal.at.overflow_mul-lines-in-2 c).In_ok-measure in omega (arith, area-le _ _ v.l1_high v.l3_high)

pub overflow_mul-lines-in_default : goal.overflow_mul-lines-in_default
overflow_mul-lines-in_default c =
    let v = valid (goal.at.overflow_mul-lines-in_default c).In_ok-measure in omega (arith, area-le _ _ v.l1_high v.l2_high)

pub overflow_mul-lines-in_default-2 : goal.overflow_mul-lines-in_default-2
overflow_mul-lines-in_default-2 c =
    let v = valid (goal.at.overflow_mul-lines-in_default-2 c).In_ok-measure in omega (arith, area-le _ _ v.l1_high v.l2_high)

pub returns-in-1 : goal.returns-in-1
unfolding axis_of value_of check and_then checked stride_of length_of lines_of
returns-in-1 c =
    let here = goal.at.returns-in-1 c in
    rw (axis-checked here.Else-not-within, fits here.In_ok-measure, c.in-1.is)

pub returns-in-2 : goal.returns-in-2
unfolding axis_of value_of check and_then checked stride_of length_of lines_of
returns-in-2 c =
    let here = goal.at.returns-in-2 c in
    rw (axis-checked here.Else-not-within, fits here.In_ok-measure, c.in-2.is)

pub returns-in_default : goal.returns-in_default
unfolding axis_of value_of check and_then checked stride_of length_of lines_of
returns-in_default c =
    let here = goal.at.returns-in_default c in
    let (low, _) = within-parts 1 3 c.args.axis (axis-checked here.Else-not-within) in
    let third : 2 < c.args.axis = omega arith in
    rw (axis-checked here.Else-not-within, fits here.In_ok-measure, lt-leb c.args.axis 1 (omega arith), lt-leb c.args.axis 2 third)
