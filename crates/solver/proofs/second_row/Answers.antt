-- `solver::second_row` gives the row of the inverted array that gives the byte at k.
use mathlib.Core.Path.{ap₂}
use mathlib.Core.List.{[], ◌∷◌}
use Prim.Native.Nat.{ℕ}
use Rattle.solver.specs.Inner.Solver.{entry, adjugate, inverted}
use Rattle.solver.proofs.Rows.{rows_same, row0-other, row1-other}
use Rattle.solver.proofs.second_row.Goals as goal

pub returns-then-j-k : goal.returns-then-j-k
returns-then-j-k c = rows_same _ _ _ c.if-j-k.true

pub returns : goal.returns
unfolding entry adjugate inverted
returns c =
    rw (
      c.invert-m.ensures,
      c.pow-y.ensures,
      c.pow-x.ensures,
    )
    (ap₂ (λ (x y : ℕ). x ∷ y ∷ [])
    (row0-other _ c.ranges.reduction.fits _ _ c.if-j-k.false)
    (row1-other _ c.ranges.reduction.fits _ _ c.if-j-k.false))
