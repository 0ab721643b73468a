-- `solver::search` finds the first place below n at which v0 times the power of α is v1.
use mathlib.Core.Path.{◌≡◌}
use Prim.Native.Nat.{ℕ, ◌<◌}
use Rattle.field.specs.Field.{mul, pow}
use Rattle.solver.proofs.search.Given as goal

abbrev pub invariant-loop-j : goal.invariant-loop-j
invariant-loop-j l =
    (l.p ≡ mul l.reduction (pow l.reduction l.j) l.v0)
    × ((i : ℕ) → i < l.j → l.v1 ≡ mul l.reduction (pow l.reduction i) l.v0 → ⊥)
