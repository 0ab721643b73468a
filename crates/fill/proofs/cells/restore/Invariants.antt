-- `fill::cells::restore` makes filled cells missing again and 00h.
use Rattle.shape.specs.Inner.Marks.{is_marked}
use Rattle.fill.proofs.Clearing.{ClearedTo}
use Rattle.shape.proofs.Marks.{RemarkedTo}
use Rattle.fill.proofs.cells.restore.Given as goal

abbrev pub invariant-loop-n : goal.invariant-loop-n
invariant-loop-n l = RemarkedTo 1 l.n l.initial.flags l.flags × ClearedTo l.w (is_marked l.initial.flags) l.n l.initial.cube l.cube
