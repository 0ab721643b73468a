-- `line::wide::one_below` takes Horner's step by a place, where the lines have it.
use native.Mathlib.Omega.{arith}
use Rattle.line.proofs.Tails.{tails-at, tails-one}
use Rattle.line.proofs.wide.one_below.Goals as goal

pub returns-then-left-run : goal.returns-then-left-run
returns-then-left-run g c =
    tails-at _ _ (omega arith)
    (tails-one c.ranges.reduction.fits (λ p. (c.type_inv.s p).fits) c.requires.1 c.one.ensures (omega arith) (omega arith))
