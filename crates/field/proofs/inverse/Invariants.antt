-- `inverse` squares once a turn: after n turns the square is the power 2^n and the product the power 2^(n + 1) - 2, so that
-- seven turns end at the power 254.
use mathlib.Core.Path.{◌≡◌}
use Prim.Native.Nat.{ℕ, ◌*◌, ◌-◌, ◌^◌}
use Rattle.field.specs.Field.{expt}
use Rattle.field.proofs.inverse.Given as goal

pub record Squares (r a n s p : ℕ) : Type 0 where
  pub square : s ≡ expt r a (2 ^ n)
  pub product : p ≡ expt r a (2 ^ n * 2 - 2)

abbrev pub invariant-loop : goal.invariant-loop
invariant-loop l = Squares l.reduction l.a l.counter l.square l.product
