-- `line::Run::lines_from` gives neighbouring lines of a run.
use mathlib.Core.Path.{refl}
use Rattle.line.specs.Inner.Block.{part}
use Rattle.line.proofs.Run.lines_from.Goals as goal

pub returns : goal.returns
unfolding part
returns c = refl
