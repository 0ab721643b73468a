-- `solver::search` finds the first place below n at which v0 times the power of α is v1.
use mathlib.Core.Path.{sym, ◌∙◌}
use native.Mathlib.Omega.{arith}
use borrow.Author.Count.{below_more}
use Rattle.solver.specs.Solver.{PlaceOutcome}
use Rattle.solver.proofs.Places.{error-place-first, power-first, power-next}
use Rattle.solver.proofs.search.Goals as goal

pub loop-j-init : goal.loop-j-init
loop-j-init c = (power-first _ _ c.ranges.v0.fits, λ i h. absurd (omega arith))

pub returns-then-p-v1 : goal.returns-then-p-v1
unfolding PlaceOutcome
returns-then-p-v1 c =
    let factor = sym c.if-p-v1.true ∙ c.loop-j.invariant.0 in (
      record {
        first_nonzero = c.requires.0;
        second_nonzero = c.requires.1;
        below = omega arith;
        factor = factor;
      },
      error-place-first _ _ _ _ _ (omega arith) factor c.loop-j.invariant.1,
    )

pub loop-j-preserved : goal.loop-j-preserved
loop-j-preserved c = (
  c.xtime-p.ensures ∙ power-next _ _ _ _ c.ranges.reduction.fits c.loop-j.invariant.0,
  below_more _ _ c.loop-j.invariant.1 (λ e. c.if-p-v1.false (c.loop-j.invariant.0 ∙ sym e)),
)

pub returns : goal.returns
unfolding PlaceOutcome
returns c = λ j h. c.loop-j.invariant.1 j (omega (arith, h.below)) h.factor
