-- `line::wide::fours` takes Horner's steps by four places a turn.
use mathlib.Core.Path.{◌∙◌}
use native.Mathlib.Omega.{arith}
use Rattle.line.proofs.Tails.{tails-four}
use Rattle.line.proofs.wide.fours.Goals as goal

pub loop-left-preserved : goal.loop-left-preserved
loop-left-preserved g c = (
  omega arith,
  omega arith,
  c.four.ensures.size0 ∙ c.loop-left.invariant.2,
  c.four.ensures.size1 ∙ c.loop-left.invariant.3,
  tails-four c.ranges.reduction.fits (λ p. (c.type_inv.s p).fits) c.loop-left.invariant.4 c.four.ensures (omega arith) (omega arith),
)
