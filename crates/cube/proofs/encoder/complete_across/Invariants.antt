-- `complete_across` goes row by row: the lines of axis 3 through those below b are codewords, and every row of a data plane keeps its data cells.
use Rattle.cube.specs.Inner.Encoder.{AcrossCompleted}
use Rattle.cube.proofs.encoder.complete_across.Given as goal

abbrev pub invariant-loop-b : goal.invariant-loop-b
invariant-loop-b l = AcrossCompleted l.reduction l.fn.sh l.b l.initial.cube l.cube
