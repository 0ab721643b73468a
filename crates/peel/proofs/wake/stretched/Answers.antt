-- `peel::wake::stretched` computes a mark with one more line awake.
use Rattle.peel.specs.Inner.Wake.{stretched}
use Rattle.peel.proofs.wake.stretched.Goals as goal

pub returns : goal.returns
unfolding stretched
returns c = rw (c.min.ensures, c.min-2.ensures)
