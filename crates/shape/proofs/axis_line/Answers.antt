-- `shape::axis_line` meets its contract: the axis is asked first, then the shape, then the line; a cell number is below lines × length, so nothing
-- wraps. Assumes nothing.
use mathlib.Core.Path.{◌≡◌}
use Prim.Native.Nat.{ℕ, ◌*◌, ◌/◌, ◌≤◌}
use native.Mathlib.Nat.{le_trans, mul-le-mul, div-le_self, mod-le}
use native.Mathlib.Omega.{arith}
use borrow.Author.Tests.{lt-ltb, le-ltb}
use Rattle.answer.specs.Refusals.{fault_number}
use Rattle.answer.specs.Values.{check, and_then, passes, checked, refusal, value_of}
use Rattle.answer.proofs.Values.{handed-on, then-refused, value-passed, value-refused}
use Rattle.shape.specs.Shapes.{axis_of}
use Rattle.shape.proofs.Axes.{axis-small, axis-then-line}
use Rattle.shape.proofs.axis_line.Goals as goal
use Rattle.shape.proofs.axis_line.Goals.{In_ok-lines}

first-le : (m stride len : ℕ) → m ≤ 65025 → stride ≤ 65025 → len ≤ 255 → m / stride * (stride * len) ≤ 1078203909375
first-le m stride len p q r = mul-le-mul (le_trans (div-le_self m stride) p) (mul-le-mul q r)

found : (c : In_ok-lines) → axis_of c.args.sh c.args.axis ≡ passes c.in_ok-lines.field-0
found c = value-passed _ _ _ c.axis_of.ensures c.in_ok-lines.was

pub returns-in_err-lines : goal.returns-in_err-lines
returns-in_err-lines c =
    rw (axis-then-line _ _ _)
    (handed-on _ _ _ c.from_residual.ensures.1 (then-refused _ _ _ (value-refused _ _ _ c.axis_of.ensures c.in_err-lines.was)))

pub returns-then-lines-m : goal.returns-then-lines-m
unfolding value_of refusal fault_number and_then checked check
returns-then-lines-m c = rw (axis-then-line _ _ _, value-passed _ _ _ c.axis_of.ensures c.in_ok-lines.was, le-ltb _ _ c.if-lines-m.true)

pub nonzero_div-first : goal.nonzero_div-first
nonzero_div-first c = (axis-small _ _ _ (found (goal.at.nonzero_div-first c).In_ok-lines)).1

pub overflow_mul-first : goal.overflow_mul-first
overflow_mul-first c =
    let (_, _, near, short) = axis-small _ _ _ (found (goal.at.overflow_mul-first c).In_ok-lines) in
    omega (arith, mul-le-mul near short)

pub overflow_mul-first-2 : goal.overflow_mul-first-2
overflow_mul-first-2 c =
    let (few, _, near, short) = axis-small _ _ _ (found (goal.at.overflow_mul-first-2 c).In_ok-lines) in
    omega (arith, first-le c.args.m _ _ (omega (arith, few)) near short)

pub nonzero_rem-first : goal.nonzero_rem-first
nonzero_rem-first c = (axis-small _ _ _ (found (goal.at.nonzero_rem-first c).In_ok-lines)).1

pub overflow_add-first : goal.overflow_add-first
overflow_add-first c =
    let (few, _, near, short) = axis-small _ _ _ (found (goal.at.overflow_add-first c).In_ok-lines) in
    omega (arith, first-le c.args.m _ _ (omega (arith, few)) near short, mod-le c.args.m c.in_ok-lines.field-0.stride)

pub returns : goal.returns
unfolding value_of and_then checked check
returns c = rw (axis-then-line _ _ _, found (goal.at.returns c).In_ok-lines, lt-ltb _ _ c.if-lines-m.false)
