-- `rows::lanes` decides whether 64 gathered lines are codewords: whether all their syndromes are 0.
use mathlib.Core.Path.{◌≡◌}
use Prim.Native.Nat.{◌-◌}
use native.Mathlib.Omega.{arith}
use Rattle.span.proofs.Decision.{decides-map}
use Rattle.rows.proofs.Horner.{lanes-none, lanes_step, zero-lanes, lanes-zero}
use Rattle.rows.proofs.lanes.Goals as goal
use Rattle.rows.proofs.lanes.Goals.{In-loop-i}

pub loop-i-init : goal.loop-i-init
loop-i-init c = rw (c.zeros-sums.ensures.first, c.zeros-sums.ensures.second) (lanes-none _ _ _ _)

pub loop-i-preserved : goal.loop-i-preserved
loop-i-preserved c =
    lanes_step (c.loop-i.i - 1) c.ranges.reduction.fits (λ p. (c.type_inv.s p).fits) c.loop-i.invariant c.gather.ensures
    c.step.ensures (omega arith) (omega arith)

pub returns : goal.returns
returns c =
    let done : c.loop-i.i ≡ 0 = omega arith in
    let sums = c.loop-i.invariant in
    decides-map (zero-lanes sums done) (lanes-zero sums done) c.all_zero.ensures
