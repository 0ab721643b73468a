-- `pow` multiplies 1 by α, once a turn: after so many turns it holds that power.
use mathlib.Core.Path.{◌≡◌}
use Rattle.field.specs.Field.{pow}
use Rattle.field.proofs.pow.Given as goal

abbrev pub invariant-loop : goal.invariant-loop
invariant-loop l = l.p ≡ pow l.reduction l.counter
