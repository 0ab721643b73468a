-- `line::strips::syndromes` gathers both syndromes of 64 lines.
use Prim.Native.Nat.{ℕ, ◌+◌, ◌-◌, ◌*◌, ◌≤◌}
use native.Mathlib.Omega.{arith}
use mathlib.Core.Path.{ap, ◌∙◌}
use lib.ListN.{length, length-replicate}
use Rattle.line.specs.Inner.Block.{Roomy}
use Rattle.line.proofs.Tails.{empty-replicate, tails-none, tails-at, tails-one, tails-whole, step-one}
use Rattle.line.proofs.strips.syndromes.Goals as goal
use Rattle.line.proofs.strips.syndromes.Goals.{In-loop-i}

-- the bytes of the place lie inside
strip :
    (c : In-loop-i) →
    c.args.run.first + c.args.run.stride * (c.loop-i.i - 1) + 64 ≤ length c.args.s.now
unfolding Roomy
strip c = c.requires.0 (c.loop-i.i - 1) (omega arith)

pub loop-i-init : goal.loop-i-init
loop-i-init c =
    let zeros = c.zeros-sums.ensures in (
      ap length zeros.first ∙ length-replicate {A = ℕ} 64 0,
      ap length zeros.second ∙ length-replicate {A = ℕ} 64 0,
      tails-none _ _ _ _ _ (empty-replicate 64 _ _ c.requires.1 zeros.first) (empty-replicate 64 _ _ c.requires.1 zeros.second),
    )

pub overflow_mul-run : goal.overflow_mul-run
overflow_mul-run c = omega (arith, strip (goal.at.overflow_mul-run c).In-loop-i)

pub overflow_add-run : goal.overflow_add-run
overflow_add-run c = omega (arith, strip (goal.at.overflow_add-run c).In-loop-i)

pub load-requires : goal.load-requires
load-requires c = strip (goal.at.load-requires c).In-loop-i

pub loop-i-preserved : goal.loop-i-preserved
loop-i-preserved c =
    let inv = c.loop-i.invariant in (
      c.step.ensures.size0 ∙ inv.0,
      c.step.ensures.size1 ∙ inv.1,
      tails-one c.ranges.reduction.fits (λ p. (c.type_inv.s p).fits) inv.2 (step-one c.requires.1 inv.0 inv.1 c.load.ensures c.step.ensures) (omega arith) (omega arith),
    )

pub returns : goal.returns
returns c = tails-whole _ _ _ _ _ (tails-at _ _ (omega arith) c.loop-i.invariant.2)
