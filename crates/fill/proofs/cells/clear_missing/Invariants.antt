-- `fill::cells::clear_missing` makes every missing cell 00h, one after the other.
use Rattle.shape.specs.Flags.{missing}
use Rattle.fill.proofs.Clearing.{ClearedTo}
use Rattle.fill.proofs.cells.clear_missing.Given as goal

abbrev pub invariant-loop-n : goal.invariant-loop-n
invariant-loop-n l = ClearedTo l.w (missing l.flags) l.n l.initial.cube l.cube
