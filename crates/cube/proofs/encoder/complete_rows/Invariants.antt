-- `complete_rows` goes row by row: those below b are codewords, and every row keeps its data cells.
use Rattle.cube.specs.Inner.Encoder.{RowsCompleted}
use Rattle.cube.proofs.encoder.complete_rows.Given as goal

abbrev pub invariant-loop-b : goal.invariant-loop-b
invariant-loop-b l = RowsCompleted l.reduction l.l1 l.w l.b l.initial.plane l.plane
