-- `receiver::placing::settle` makes marked cells missing and counts them.
use mathlib.Core.Path.{◌≡◌}
use Prim.Native.Nat.{◌≤◌}
use lib.ListN.{length}
use Rattle.shape.specs.Inner.Marks.{is_marked}
use Rattle.shape.proofs.Marks.{RemarkedTo}
use Rattle.stopping.specs.Stopping.{number}
use Rattle.receiver.proofs.placing.settle.Given as goal

abbrev pub invariant-loop-flag : goal.invariant-loop-flag
invariant-loop-flag l =
    (l.flag-index ≤ length l.initial.flags) × RemarkedTo 1 l.flag-index l.initial.flags l.flags × (l.conflicts ≡ number (is_marked l.initial.flags) l.flag-index)
