-- `line::block::block_after` gives the block that follows the lines that are done.
use native.Mathlib.Omega.{arith}
use Rattle.line.proofs.Parts.{part-block}
use Rattle.line.proofs.block.block_after.Goals as goal
use Rattle.line.proofs.block.block_after.Goals.{then-run-gt16+then-run-ge4096, else-run-gt16}

pub returns : goal.returns
returns c =
    elim c.if-run-gt16.branch [
      | then-run-gt16+then-run-ge4096 w ↦ part-block c.lines_from.ensures (omega arith) (omega arith) (omega arith) (omega arith)
      | else-run-gt16 w ↦ part-block c.lines_from.ensures (omega arith) (omega arith) (omega arith) (omega arith)
    ]
