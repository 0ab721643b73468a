-- `shape::within` meets its contract.
use Rattle.std.proofs.Common.{rules, tests}
use Rattle.shape.specs.Shapes.{within, both}
use Rattle.shape.proofs.within.Goals as goal

pub returns : goal.returns
unfolding within both
returns c = search (rules, tests)
