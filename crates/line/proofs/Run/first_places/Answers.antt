-- `line::Run::first_places` gives the first places of the lines of a run.
use mathlib.Core.Path.{refl}
use Rattle.line.specs.Inner.Block.{places}
use Rattle.line.proofs.Run.first_places.Goals as goal

pub returns : goal.returns
unfolding places
returns c = refl
