-- `fill::cells::restore` makes filled cells missing again and 00h.
use mathlib.Core.Path.{◌≡◌, sym, ◌∙◌}
use native.Mathlib.Omega.{arith}
use borrow.Author.Tests.{eq-eqb, ne_eqb}
use Rattle.std.proofs.lemmas.List.{set-get_or}
use Rattle.shape.specs.Shapes.{cells}
use Rattle.shape.specs.Inner.Marks.{is_marked}
use Rattle.shape.proofs.Marks.{remarked-flag, remarked-skip, remarked-more}
use Rattle.fill.proofs.Clearing.{cell_room, cleared-skip, cleared_more, cleared-all}
use Rattle.fill.proofs.cells.restore.Goals as goal
use Rattle.fill.proofs.cells.restore.Goals.{then-mark-eq-MARKED, else-mark-eq-MARKED}

pub loop-n-preserved : goal.loop-n-preserved
unfolding is_marked
loop-n-preserved c =
    let (flags, cube) = c.loop-n.invariant in
    let same : is_marked c.args.flags.now c.loop-n.n ≡ is_marked c.loop-n.flags c.loop-n.n = sym (remarked-flag 1 _ _ _ flags) in
    elim c.if-mark-eq-MARKED.branch [
      | then-mark-eq-MARKED w ↦ (
        rw w.flags-is (remarked-more 1 _ _ _ flags (omega (arith, flags.size)) w.if-mark-eq-MARKED.true),
        rw w.cube-is
            (cleared_more _ _ _ _ _ _ cube (same ∙ eq-eqb _ _ w.if-mark-eq-MARKED.true)
            (w.set.ensures.done (omega (arith, cell_room _ _ _ c.requires c.loop-n.n (omega arith), cube.size))).1),
      )
      | else-mark-eq-MARKED w ↦ (
        rw (w.flags-is, set-get_or) (remarked-skip 1 _ _ _ flags w.if-mark-eq-MARKED.false),
        rw w.cube-is (cleared-skip _ _ _ _ _ cube (same ∙ ne_eqb _ _ w.if-mark-eq-MARKED.false)),
      )
    ]

pub returns-clause-cleared : goal.returns-clause-cleared
returns-clause-cleared c = let e : c.loop-n.n ≡ cells c.args.sh = omega (arith, c.requires.flags) in cleared-all _ _ _ _ (rw e at c.loop-n.invariant.1)
