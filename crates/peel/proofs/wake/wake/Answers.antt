-- `peel::wake::wake` wakes the line of each axis through a cell.
use native.Mathlib.Nat.{mul-pos}
use native.Mathlib.Omega.{arith}
use Rattle.shape.proofs.Valid.{area-le}
use Rattle.peel.proofs.Awake.{line-below, through-first, through-second, through-third, woken-through}
use Rattle.peel.proofs.wake.wake.Goals as goal

pub overflow_mul-plane : goal.overflow_mul-plane
overflow_mul-plane c = let v = c.requires.0 in omega (arith, area-le _ _ v.l1_high v.l2_high)

pub wake_line-requires : goal.wake_line-requires
wake_line-requires c = let (v, l) = c.requires in omega (arith, through-first _ _ v l, line-below _ _ v l 1)

pub nonzero_div-n-2 : goal.nonzero_div-n-2
nonzero_div-n-2 c = let v = c.requires.0 in mul-pos (omega (arith, v.l1_low)) (omega (arith, v.l2_low))

pub overflow_mul-n : goal.overflow_mul-n
overflow_mul-n c = let (v, l) = c.requires in omega (arith, through-second _ _ v l, line-below _ _ v l 2)

pub overflow_add-n : goal.overflow_add-n
overflow_add-n c = let (v, l) = c.requires in omega (arith, through-second _ _ v l, line-below _ _ v l 2)

pub overflow_add-n-2 : goal.overflow_add-n-2
overflow_add-n-2 c = let (v, l) = c.requires in omega (arith, through-second _ _ v l, line-below _ _ v l 2)

pub wake_line-requires-2 : goal.wake_line-requires-2
wake_line-requires-2 c = let (v, l) = c.requires in omega (arith, through-second _ _ v l, line-below _ _ v l 2)

pub nonzero_rem-n-2 : goal.nonzero_rem-n-2
nonzero_rem-n-2 c = let v = c.requires.0 in mul-pos (omega (arith, v.l1_low)) (omega (arith, v.l2_low))

pub overflow_add-n-3 : goal.overflow_add-n-3
overflow_add-n-3 c = let (v, l) = c.requires in omega (arith, through-third _ _ v l, line-below _ _ v l 3)

pub wake_line-requires-3 : goal.wake_line-requires-3
wake_line-requires-3 c = let (v, l) = c.requires in omega (arith, through-third _ _ v l, line-below _ _ v l 3)

pub returns : goal.returns
returns c =
    let (v, l) = c.requires in
    woken-through _ _ v l _ _ _ _ _ _ _ c.told-marks (through-first _ _ v l) (omega (arith, through-second _ _ v l)) (omega (arith, through-third _ _ v l)) c.wake_line.ensures
    c.wake_line-2.ensures c.wake_line-3.ensures
