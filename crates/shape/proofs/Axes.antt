-- The axes of a shape: they are few, near and short, a call finds each, and its lines are those that a call finds.
use mathlib.Core.Path.{◌≡◌, refl, sym}
use mathlib.Core.Bool.{Bool, true, false, cond}
use Prim.Native.Nat.{ℕ, ◌+◌, ◌*◌, ◌/◌, ◌%◌, ◌≤◌, ◌<◌}
use native.Mathlib.Omega.{arith}
use lib.Dec.{leb, ltb}
use Rattle.answer.specs.Values.{Checked, passes, fails, check, and_then}
use Rattle.answer.proofs.Values.{check-passed, then-passed, passes-injective}
use Rattle.shape.specs.declared.Shape.{Shape}
use Rattle.shape.specs.declared.Sizes.{Sizes}
use Rattle.shape.specs.declared.Axis.{Axis}
use Rattle.shape.specs.declared.Line.{Line}
use Rattle.shape.specs.Shapes.{Valid, IsAxis, within, stride_of, length_of, lines_of, first_of, shape_checked, axis_of, line_in, line_of}
use Rattle.shape.proofs.Geometry.{stride_of-pos, length_of-high}
use Rattle.shape.proofs.Valid.{shape-passed, valid-passes, within-parts, within-true, area-le}

-- ---- the numbers of an axis are small

pub lines-few : (sh : Shape) (axis : ℕ) → Valid sh → lines_of sh axis ≤ 65025
unfolding lines_of
lines-few sh axis v = by (leb axis 1) (leb axis 2)
  where
    by : (b c : Bool) → cond b (sh.l2 * sh.l3) (cond c (sh.l1 * sh.l3) (sh.l1 * sh.l2)) ≤ 65025
    by true c = area-le _ _ v.l2_high v.l3_high
    by false true = area-le _ _ v.l1_high v.l3_high
    by false false = area-le _ _ v.l1_high v.l2_high

pub stride-near : (sh : Shape) (axis : ℕ) → Valid sh → stride_of sh axis ≤ 65025
unfolding stride_of
stride-near sh axis v = by (leb axis 1) (leb axis 2)
  where
    by : (b c : Bool) → cond b 1 (cond c sh.l1 (sh.l1 * sh.l2)) ≤ 65025
    by true c = omega arith
    by false true = omega (arith, v.l1_high)
    by false false = area-le _ _ v.l1_high v.l2_high

-- ---- what a call answers for an axis

abbrev along-axis : Shape → ℕ → Axis
along-axis sh axis = record { lines = lines_of sh axis; stride = stride_of sh axis; len = length_of sh axis }

pub axis-found : (sh : Shape) (axis : ℕ) → Valid sh → IsAxis axis → axis_of sh axis ≡ passes (along-axis sh axis)
unfolding axis_of check and_then
axis-found sh axis v on = rw (within-true 1 3 axis on.0 on.1, valid-passes sh v)

pub axis-passed : (sh : Shape) (axis : ℕ) (a : Axis) → axis_of sh axis ≡ passes a → Valid sh × IsAxis axis × (a ≡ along-axis sh axis)
unfolding axis_of
axis-passed sh axis a e =
    let (on, e₁) = check-passed (within 1 3 axis) 1 _ a e in
    let (z, fits, e₂) = then-passed (shape_checked sh) _ a e₁ in
    ((shape-passed sh z fits).0, within-parts 1 3 axis on, sym (passes-injective _ _ e₂))

pub axis-small : (sh : Shape) (axis : ℕ) (a : Axis) → axis_of sh axis ≡ passes a → (a.lines ≤ 65025) × (0 < a.stride) × (a.stride ≤ 65025) × (a.len ≤ 255)
axis-small sh axis a e =
    let (v, on, same) = axis-passed sh axis a e in
    rw same (lines-few sh axis v, stride_of-pos sh axis v, stride-near sh axis v, length_of-high sh axis v)

-- ---- a line is found on an axis that is found

then-line : (b : Bool) (c : Checked Sizes) (a : Axis) (next : Axis → Checked Line)
    → check b 1 (and_then c (λ z. next a)) ≡ and_then (check b 1 (and_then c (λ z. passes a))) next
unfolding check and_then
then-line true (passes z) a next = refl
then-line true (fails n) a next = refl
then-line false c a next = refl

pub axis-then-line : (sh : Shape) (axis m : ℕ)
    → line_of sh axis m ≡
    and_then (axis_of sh axis)
    (λ a. check (ltb m a.lines) 1 (passes (record { first = m / a.stride * (a.stride * a.len) + m % a.stride; stride = a.stride; len = a.len })))
unfolding line_of axis_of line_in first_of
axis-then-line sh axis m = then-line (within 1 3 axis) (shape_checked sh) (along-axis sh axis) _
