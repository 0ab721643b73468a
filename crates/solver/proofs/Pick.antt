-- A pick by a test of equality.
use mathlib.Core.Path.{◌≡◌, ap}
use mathlib.Core.Bool.{Bool}
use mathlib.Core.Logic.{◌≢◌}
use Prim.Native.Nat.{ℕ}
use lib.Dec.{eqb}
use borrow.Author.Tests.{eq-eqb, ne_eqb}
use Rattle.solver.specs.Solver.{pick}

pub pick-eq : (a b x y : ℕ) → a ≡ b → pick (eqb a b) x y ≡ x
unfolding pick
pick-eq a b x y e = ap (λ (t : Bool). pick t x y) (eq-eqb a b e)

pub pick-ne : (a b x y : ℕ) → a ≢ b → pick (eqb a b) x y ≡ y
unfolding pick
pick-ne a b x y ne = ap (λ (t : Bool). pick t x y) (ne_eqb a b ne)
