-- `encode_rows` goes row by row: those below b are encoded through all planes, and no other row is written.
use Rattle.cube.specs.Inner.Encoder.{RowsEncoded}
use Rattle.cube.proofs.encoder.encode_rows.Given as goal

abbrev pub invariant-loop-b : goal.invariant-loop-b
invariant-loop-b l = RowsEncoded l.reduction l.fn.sh l.b l.«data» l.cube
