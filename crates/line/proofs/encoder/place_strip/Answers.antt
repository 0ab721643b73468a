-- `line::encoder::place_strip` copies the data places of 64 lines from the last to the first, and takes Horner's step by each.
use mathlib.Core.Path.{◌≡◌, refl, ap, ◌∙◌}
use Prim.Native.Nat.{ℕ, ◌+◌, ◌-◌, ◌*◌, ◌≤◌, ◌<◌}
use native.Mathlib.Omega.{arith}
use lib.ListN.{length, length-replicate}
use Rattle.line.proofs.Encoding.{between_none, between_more, between-all}
use Rattle.line.proofs.Tails.{empty-replicate, tails-none, tails-at, tails-one, tails-whole, step-one}
use Rattle.line.proofs.encoder.place_strip.Goals as goal
use Rattle.line.proofs.encoder.place_strip.Goals.{Start}

-- the bytes of a data place lie inside both lists
from-strip :
    (c : Start) (i : ℕ) → i < c.args.from.len →
    c.args.from.first + c.args.from.stride * i + 64 ≤ length c.args.«data».now
from-strip c i h = omega (arith, c.requires.1.inside.fits i h, c.requires.1.lines, c.requires.2)

to-strip :
    (c : Start) (i : ℕ) → i < c.args.from.len →
    c.args.to.first + c.args.to.stride * i + 64 ≤ length c.args.s.now
to-strip c i h = omega (arith, c.requires.0.fits i (omega (arith, c.requires.1.places)), c.requires.2)

pub loop-i-init : goal.loop-i-init
loop-i-init c =
    let zeros = c.zeros-sums.ensures in
    let few : c.args.from.width ≤ 64 = omega (arith, c.requires.1.lines, c.requires.2) in (
      between_none _ _ _ _ _ _ (omega arith),
      ap length zeros.first ∙ length-replicate {A = ℕ} 64 0,
      ap length zeros.second ∙ length-replicate {A = ℕ} 64 0,
      tails-none _ _ _ _ _ (empty-replicate 64 _ _ few zeros.first) (empty-replicate 64 _ _ few zeros.second),
    )

pub loop-i-preserved : goal.loop-i-preserved
loop-i-preserved c =
    let start = (goal.at.loop-i-preserved c).Start in
    let turn = c.loop-i in
    let wide : start.args.to.width ≡ 64 = start.requires.2 in
    let here : turn.i - 1 < start.args.from.len = omega arith in
    let done = c.copy_strip-c.ensures.done
    (from-strip start (turn.i - 1) here, omega (arith, to-strip start (turn.i - 1) here, turn.invariant.0.size)) in (
      between_more turn.invariant.0 _ _ (turn.i - 1) (rw wide done.0) start.requires.0.apart (omega arith) (omega arith),
      c.step.ensures.size0 ∙ turn.invariant.1,
      c.step.ensures.size1 ∙ turn.invariant.2,
      tails-one start.ranges.reduction.fits (λ p. (c.type_inv.«data» p).fits) turn.invariant.3
          (step-one (omega (arith, start.requires.1.lines)) turn.invariant.1 turn.invariant.2 done.1 c.step.ensures) (omega arith) (omega arith),
    )

pub returns : goal.returns
returns c = (between-all c.loop-i.invariant.0 (omega arith) refl, tails-whole _ _ _ _ _ (tails-at _ _ (omega arith) c.loop-i.invariant.3))
