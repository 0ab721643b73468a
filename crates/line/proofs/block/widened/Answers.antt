-- `line::block::widened` covers a block, and may reach back.
use native.Mathlib.Omega.{arith}
use Rattle.line.proofs.Parts.{widened-last, widened-none}
use Rattle.line.proofs.block.widened.Goals as goal

pub returns-then-run-ge64 : goal.returns-then-run-ge64
returns-then-run-ge64 c = λ a b. widened-last b (omega arith) (omega arith) c.lines_from.ensures

pub returns-else-b-lt64 : goal.returns-else-b-lt64
returns-else-b-lt64 c = λ a b. widened-none b
