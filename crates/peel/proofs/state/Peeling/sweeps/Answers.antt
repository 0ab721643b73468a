-- `Peeling::sweeps` sweeps the axes 1, 2, 3 over and over until three of them in succession fill nothing: then no line is left to peel. Each
-- sweep fills a cell or is idle, so that the measure falls.
use mathlib.Core.Path.{◌≡◌, refl, ◌∙◌}
use mathlib.Core.Logic.{◌≢◌, ◌⊎◌, inl, inr}
use Prim.Native.Nat.{◌+◌}
use native.Mathlib.Omega.{arith}
use Rattle.field.specs.Field.{reduction}
use Rattle.peel.specs.Inner.Sweep.{AxisStops, Filled}
use Rattle.peel.proofs.Reaching.{reaches-refl, reaches-trans, idle-none, turn-idle, turn-bound, turn-less, axes-peeled}
use Rattle.peel.proofs.state.Peeling.sweeps.Goals as goal
use Rattle.peel.proofs.state.Peeling.sweeps.Goals.{Joined-filled-eq0, then-filled-eq0, else-filled-eq0}

turn :
    (c : Joined-filled-eq0) →
    ((c.sweep-filled.result ≡ 0) × (c.if-filled-eq0.idle ≡ c.loop-idle.idle + 1)) ⊎ ((c.sweep-filled.result ≢ 0) × (c.if-filled-eq0.idle ≡ 0))
turn c = elim c.if-filled-eq0.branch [ then-filled-eq0 w ↦ inl (w.if-filled-eq0.true, w.idle-is) | else-filled-eq0 w ↦ inr (w.if-filled-eq0.false, w.idle-is) ]

filled :
    (c : Joined-filled-eq0) →
    let shape = c.args.self.now.shape in
    let before = c.loop-idle.self in
    let after = c.sweep-filled.new.self in
    Filled reduction shape (λ fs. AxisStops shape fs c.loop-idle.axis) before.cube.now before.flags.now after.cube.now after.flags.now c.sweep-filled.result
filled c = rw c.loop-idle.invariant.lends.2 at c.sweep-filled.ensures.filled

pub loop-idle-init : goal.loop-idle-init
loop-idle-init c =
    record {
      low = omega arith;
      high = omega arith;
      few = omega arith;
      lends = (refl, refl, refl);
      reaches = reaches-refl _ _ _ _;
      idle = idle-none _ _ _;
      calm = c.requires;
    }

pub sweep-filled-requires-clause-calm : goal.sweep-filled-requires-clause-calm
sweep-filled-requires-clause-calm c = let so_far = c.loop-idle.invariant in rw so_far.lends.2 so_far.calm

pub loop-idle-smaller : goal.loop-idle-smaller
loop-idle-smaller c =
    let here = (goal.at.loop-idle-smaller c).Joined-filled-eq0 in turn-less _ (filled here) _ _ (turn here) (omega arith)

pub loop-idle-preserved : goal.loop-idle-preserved
loop-idle-preserved c =
    let here = (goal.at.loop-idle-preserved c).Joined-filled-eq0 in
    let so_far = c.loop-idle.invariant in
    let swept = c.sweep-filled.ensures in
    record {
      low = omega arith;
      high = omega arith;
      few = turn-bound _ (filled here) _ _ (turn here) (omega arith);
      lends = (swept.lends.0 ∙ so_far.lends.0, swept.lends.1 ∙ so_far.lends.1, swept.lends.2 ∙ so_far.lends.2);
      reaches = reaches-trans so_far.reaches (filled here).reaches;
      idle = turn-idle _ (filled here) _ _ (turn here) so_far.low so_far.high so_far.idle;
      calm = rw so_far.lends.2 at swept.calm_2;
    }

pub returns-clause-peeled : goal.returns-clause-peeled
returns-clause-peeled c =
    let so_far = c.loop-idle.invariant in
    let e : c.loop-idle.idle ≡ 3 = omega arith in
    axes-peeled _ c.args.self.now.sized.valid so_far.low so_far.high (rw e at so_far.idle) so_far.reaches
