-- `line::corrector::correct_block` corrects a block; where all lines are codewords there is nothing to do.
use Rattle.line.proofs.Correction.{corrected-codewords}
use Rattle.line.proofs.corrector.correct_block.Goals as goal

pub returns-then-codeword_block : goal.returns-then-codeword_block
returns-then-codeword_block c = corrected-codewords (c.codeword_block.ensures.yes_then c.if-codeword_block.true)
