-- `pow` multiplies 1 by α, once a turn: after so many turns it holds that power.
use mathlib.Core.Path.{refl, ap, ◌∙◌}
use native.Mathlib.Numerals.{add-one}
use Rattle.field.specs.Field.{xtime, pow}
use Rattle.field.proofs.pow.Goals as goal

pub loop-init : goal.loop-init
unfolding pow
loop-init c = refl

pub loop-preserved : goal.loop-preserved
unfolding pow
loop-preserved c = rw (add-one c.loop.counter) (c.xtime-p.ensures ∙ ap (xtime c.args.reduction) c.loop.invariant)
