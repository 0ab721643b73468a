-- `line::corrector::correct_lines` corrects the lines of a block, one a turn.
use Rattle.line.specs.Inner.Block.{front}
use Rattle.line.proofs.Parts.{Changed}
use Rattle.line.proofs.Correction.{Below, Mended}
use Rattle.line.proofs.corrector.correct_lines.Given as goal

abbrev pub invariant-loop-t : goal.invariant-loop-t
invariant-loop-t g l =
    Changed Below (Mended l.reduction) (front l.run l.t) l.initial.s l.s
