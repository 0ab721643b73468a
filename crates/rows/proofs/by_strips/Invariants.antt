-- `rows::by_strips` decides whether the lines of all rows are codewords, 64 rows at a time.
use Prim.Native.Nat.{◌+◌, ◌-◌, ◌≤◌}
use Rattle.rows.specs.Inner.{RowsRight}
use Rattle.rows.proofs.by_strips.Given as goal

abbrev pub invariant-loop-from : goal.invariant-loop-from
invariant-loop-from l = (l.from ≤ l.last + 63) × RowsRight l.reduction l.run l.gap 0 l.from l.s

abbrev pub decreases-loop-from : goal.decreases-loop-from
decreases-loop-from l = l.last + 64 - l.from
