-- `data::place::stretch_at` takes byte q apart by the rows and the planes. Assumes nothing.
use Prim.Native.Nat.{◌*◌, ◌-◌, ◌/◌, ◌%◌, ◌<◌}
use native.Mathlib.Nat.{mod-lt}
use native.Mathlib.Omega.{arith}
use Rattle.shape.proofs.Bounds.{small}
use Rattle.data.proofs.Placing.{width-pos, Reach, reach, standing-at}
use Rattle.data.proofs.place.stretch_at.Goals as goal
use Rattle.data.proofs.place.stretch_at.Goals.{Start}

reached : (s : Start) → let sh = s.args.sh in
    Reach sh (s.args.q / ((sh.l1 - 2) * sh.w) % (sh.l2 - 2)) (s.args.q / ((sh.l1 - 2) * sh.w) / (sh.l2 - 2))
reached s = reach s.args.sh s.args.q s.requires.0 s.requires.1

byte-below : (s : Start) → s.args.q % ((s.args.sh.l1 - 2) * s.args.sh.w) < (s.args.sh.l1 - 2) * s.args.sh.w
byte-below s = mod-lt s.args.q (width-pos s.args.sh s.requires.0)

pub overflow_mul-width : goal.overflow_mul-width
overflow_mul-width c = omega (arith, small _ c.requires.0)

pub nonzero_div-row : goal.nonzero_div-row
nonzero_div-row c = width-pos _ c.requires.0

pub nonzero_rem-y : goal.nonzero_rem-y
nonzero_rem-y c = width-pos _ c.requires.0

pub overflow_mul-result : goal.overflow_mul-result
overflow_mul-result c = omega (arith, reached (goal.at.overflow_mul-result c).Start)

pub overflow_add-result : goal.overflow_add-result
overflow_add-result c = omega (arith, reached (goal.at.overflow_add-result c).Start)

pub overflow_mul-result-2 : goal.overflow_mul-result-2
overflow_mul-result-2 c = omega (arith, reached (goal.at.overflow_mul-result-2 c).Start)

pub overflow_mul-result-3 : goal.overflow_mul-result-3
overflow_mul-result-3 c = omega (arith, reached (goal.at.overflow_mul-result-3 c).Start)

pub overflow_add-result-2 : goal.overflow_add-result-2
overflow_add-result-2 c = omega (arith, reached (goal.at.overflow_add-result-2 c).Start, byte-below (goal.at.overflow_add-result-2 c).Start, small _ c.requires.0)

pub overflow_sub-result : goal.overflow_sub-result
overflow_sub-result c = omega (arith, byte-below (goal.at.overflow_sub-result c).Start)

pub returns : goal.returns
returns c = standing-at _ _ c.requires.0
