-- `fill::cells::settle` makes filled cells known and counts the missing ones.
use mathlib.Core.Path.{◌≡◌}
use Rattle.stopping.specs.Stopping.{number}
use Rattle.shape.specs.Flags.{missing}
use Rattle.shape.proofs.Marks.{RemarkedTo}
use Rattle.fill.proofs.cells.settle.Given as goal

abbrev pub invariant-loop-flag : goal.invariant-loop-flag
invariant-loop-flag l = RemarkedTo 0 l.flag-index l.initial.flags l.flags × (l.left ≡ number (missing l.flags) l.flag-index)
