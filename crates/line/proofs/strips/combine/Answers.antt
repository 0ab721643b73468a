-- `line::strips::combine` writes both erasures of 64 lines from their syndromes.
use native.Mathlib.Omega.{arith}
use Rattle.line.proofs.Solving.{copied-combined}
use Rattle.line.proofs.strips.combine.Goals as goal
use Rattle.line.proofs.strips.combine.Goals.{Start}

pub returns : goal.returns
returns c = copied-combined c.requires.1 (omega arith) c.requires.0.0.apart c.products-y.ensures c.sums.ensures c.store.ensures c.store-2.ensures
