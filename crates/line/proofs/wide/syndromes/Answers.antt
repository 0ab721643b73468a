-- `line::wide::syndromes` gathers both syndromes of each line of a block.
use native.Mathlib.Omega.{arith}
use Rattle.line.proofs.Tails.{tails-none, tails-whole}
use Rattle.line.proofs.wide.syndromes.Goals as goal

pub ones-requires : goal.ones-requires
ones-requires g c = (omega arith, (c.requires.0, tails-none _ _ _ _ _ c.requires.1 c.requires.2, c.requires.3))

pub returns : goal.returns
returns g c = tails-whole _ _ _ _ _ c.fours.ensures
