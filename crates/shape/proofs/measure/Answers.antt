-- `shape::measure` meets its contract: the lengths are at most 255 and a cell at most 1,024 bytes, so no product wraps. Assumes nothing.
use mathlib.Core.Path.{◌≡◌, sym, ◌∙◌}
use mathlib.Core.Bool.{true}
use Prim.Native.Nat.{◌-◌, ◌*◌, ◌≤◌}
use native.Mathlib.Omega.{arith}
use borrow.Author.Tests.{le-leb, lt-leb}
use Rattle.answer.specs.Refusals.{fault_number}
use Rattle.answer.specs.Values.{check, checked, refusal, value_of}
use Rattle.shape.specs.Shapes.{within, lengths_fit, cells, capacity, sizes, shape_checked}
use Rattle.shape.proofs.Valid.{Lengths, lengths-parts, within-parts, area-le, volume-le, data-length-le, bytes_le}
use Rattle.shape.proofs.measure.Goals as goal
use Rattle.shape.proofs.measure.Goals.{Else-bytes-gt268435456, Else-not-lengths_fit, Else-not-within}

-- ---- what the first two checks say

lengths-checked : (c : Else-not-lengths_fit) → lengths_fit c.args.sh ≡ true
lengths-checked c = sym c.lengths_fit.ensures ∙ c.if-not-lengths_fit.false

width-checked : (c : Else-not-within) → within 1 1024 c.args.sh.w ≡ true
width-checked c = sym c.within.ensures ∙ c.if-not-within.false

lengths : (c : Else-not-within) → Lengths c.args.sh
lengths c = lengths-parts _ (lengths-checked c.before.before)

data-volume :
    (c : Else-bytes-gt268435456) →
    let sh = c.args.sh in
    (sh.l1 - 2) * (sh.l2 - 2) * (sh.l3 - 2) ≤ 16581375
data-volume c =
    let l = lengths c.before in
    volume-le _ _ _ (data-length-le _ l.l1_high) (data-length-le _ l.l2_high) (data-length-le _ l.l3_high)

-- ---- the needs

pub returns-then-not-lengths_fit : goal.returns-then-not-lengths_fit
unfolding value_of refusal fault_number shape_checked check checked
returns-then-not-lengths_fit c = rw (sym c.lengths_fit.ensures ∙ c.if-not-lengths_fit.true)

pub returns-then-not-within : goal.returns-then-not-within
unfolding value_of refusal fault_number shape_checked check checked
returns-then-not-within c = rw (lengths-checked (goal.at.returns-then-not-within c).Else-not-lengths_fit, sym c.within.ensures ∙ c.if-not-within.true)

pub overflow_mul-cells : goal.overflow_mul-cells
overflow_mul-cells c =
    let l = lengths (goal.at.overflow_mul-cells c).Else-not-within in
    omega (arith, area-le _ _ l.l1_high l.l2_high)

pub overflow_mul-cells-2 : goal.overflow_mul-cells-2
overflow_mul-cells-2 c =
    let l = lengths (goal.at.overflow_mul-cells-2 c).Else-not-within in
    omega (arith, volume-le _ _ _ l.l1_high l.l2_high l.l3_high)

pub overflow_mul-bytes : goal.overflow_mul-bytes
overflow_mul-bytes c =
    let l = lengths (goal.at.overflow_mul-bytes c).Else-not-within in
    omega (arith, bytes_le _ _ (within-parts 1 1024 _ (width-checked (goal.at.overflow_mul-bytes c).Else-not-within)).1 (volume-le _ _ _ l.l1_high l.l2_high l.l3_high))

pub returns-then-bytes-gt268435456 : goal.returns-then-bytes-gt268435456
unfolding value_of refusal fault_number shape_checked check checked cells
returns-then-bytes-gt268435456 c = rw (lengths-checked (goal.at.returns-then-bytes-gt268435456 c).Else-not-lengths_fit, width-checked (goal.at.returns-then-bytes-gt268435456 c).Else-not-within, lt-leb _ _ c.if-bytes-gt268435456.true)

pub overflow_sub-capacity : goal.overflow_sub-capacity
overflow_sub-capacity c = omega (arith, (lengths (goal.at.overflow_sub-capacity c).Else-not-within).l1_low)

pub overflow_sub-capacity-2 : goal.overflow_sub-capacity-2
overflow_sub-capacity-2 c = omega (arith, (lengths (goal.at.overflow_sub-capacity-2 c).Else-not-within).l2_low)

pub overflow_mul-capacity : goal.overflow_mul-capacity
overflow_mul-capacity c =
    let l = lengths (goal.at.overflow_mul-capacity c).Else-not-within in
    omega (arith, area-le _ _ (data-length-le _ l.l1_high) (data-length-le _ l.l2_high))

pub overflow_sub-capacity-3 : goal.overflow_sub-capacity-3
overflow_sub-capacity-3 c = omega (arith, (lengths (goal.at.overflow_sub-capacity-3 c).Else-not-within).l3_low)

pub overflow_mul-capacity-2 : goal.overflow_mul-capacity-2
overflow_mul-capacity-2 c = omega (arith, data-volume (goal.at.overflow_mul-capacity-2 c).Else-bytes-gt268435456)

pub overflow_mul-capacity-3 : goal.overflow_mul-capacity-3
overflow_mul-capacity-3 c = omega (arith, bytes_le _ _ (within-parts 1 1024 _ (width-checked (goal.at.overflow_mul-capacity-3 c).Else-not-within)).1 (data-volume (goal.at.overflow_mul-capacity-3 c).Else-bytes-gt268435456))

pub returns : goal.returns
unfolding value_of shape_checked check checked sizes cells capacity
returns c = rw (lengths-checked (goal.at.returns c).Else-not-lengths_fit, width-checked (goal.at.returns c).Else-not-within, le-leb _ _ c.if-bytes-gt268435456.false)
