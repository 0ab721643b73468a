-- `fill::cells::clear_missing` makes every missing cell 00h, one after the other.
use mathlib.Core.Path.{◌≡◌}
use native.Mathlib.Omega.{arith}
use borrow.Author.Tests.{eq-eqb, ne_eqb}
use Rattle.shape.specs.Shapes.{cells}
use Rattle.shape.specs.Flags.{missing}
use Rattle.fill.proofs.Clearing.{cell_room, cleared-skip, cleared_more, cleared-all}
use Rattle.fill.proofs.cells.clear_missing.Goals as goal
use Rattle.fill.proofs.cells.clear_missing.Goals.{then-flag-eq-MISSING, else-flag-eq-MISSING}

pub loop-n-preserved : goal.loop-n-preserved
unfolding missing
loop-n-preserved c =
    let so_far = c.loop-n.invariant in
    elim c.if-flag-eq-MISSING.branch [
      | then-flag-eq-MISSING w ↦
          rw w.cube-is
          (cleared_more _ _ _ _ _ _ so_far (eq-eqb _ _ w.if-flag-eq-MISSING.true)
          (w.set.ensures.done (omega (arith, cell_room _ _ _ c.requires c.loop-n.n (omega arith), so_far.size))).1)
      | else-flag-eq-MISSING w ↦ rw w.cube-is (cleared-skip _ _ _ _ _ so_far (ne_eqb _ _ w.if-flag-eq-MISSING.false))
    ]

pub returns : goal.returns
returns c = let e : c.loop-n.n ≡ cells c.args.sh = omega (arith, c.requires.flags) in cleared-all _ _ _ _ (rw e at c.loop-n.invariant)
