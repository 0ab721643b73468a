-- `peel::wake::past_quiet` passes over groups that are quiet, 32 at a time.
use Prim.Native.Nat.{◌≤◌}
use Rattle.peel.specs.Inner.Wake.{AllQuiet}
use Rattle.peel.proofs.wake.past_quiet.Given as goal

abbrev pub invariant-loop-g : goal.invariant-loop-g
invariant-loop-g l = (l.g ≤ l.groups) × AllQuiet l.marks l.axis l.from l.g
