-- `peel::wake::past_quiet` passes over groups that are quiet, 32 at a time.
use mathlib.Core.Path.{◌≡◌}
use Prim.Native.Nat.{◌+◌}
use native.Mathlib.Omega.{arith}
use Rattle.peel.proofs.Awake.{quiet-more}
use Rattle.peel.proofs.wake.past_quiet.Goals as goal

pub loop-g-preserved : goal.loop-g-preserved
loop-g-preserved c = (omega arith, quiet-more 32 c.loop-g.invariant.1 (rw c.mark_at.ensures at (c.all_quiet.ensures c.if-not-all_quiet.false)))

pub returns : goal.returns
returns c = let e : c.loop-g.g ≡ c.args.groups = omega arith in (omega arith, omega arith, rw e at c.loop-g.invariant.1)

pub returns-else-not-all_quiet : goal.returns-else-not-all_quiet
returns-else-not-all_quiet c =
    let e : c.loop-g.g + 32 ≡ c.args.groups = omega arith in
    (omega arith, omega arith, rw e at (quiet-more 32 c.loop-g.invariant.1 (rw c.mark_at.ensures at (c.all_quiet.ensures c.if-not-all_quiet.false))))
