-- `plan::reading::begin` meets its contract.
use native.Mathlib.Omega.{arith}
use Rattle.plan.proofs.Beginning.{begun-copied}
use Rattle.plan.proofs.reading.begin.Goals as goal

pub returns : goal.returns
returns c =
    begun-copied c.requires.0 c.requires.1 (c.copy.ensures.done (c.requires.0, omega (arith, c.requires.1))).1
