-- `fill::cells::settle` makes filled cells known and counts the missing ones.
use mathlib.Core.Path.{◌≡◌, sym}
use native.Mathlib.Omega.{arith}
use lib.ListN.{length}
use Rattle.std.proofs.lemmas.List.{set-get_or}
use Rattle.stopping.proofs.Number.{number-nil, number-le}
use Rattle.shape.specs.Flags.{missing}
use Rattle.shape.proofs.Marks.{remarked-none, remarked-more, remarked-skip}
use Rattle.fill.proofs.Marks.{counted-in, counted-out}
use Rattle.fill.proofs.cells.settle.Goals as goal
use Rattle.fill.proofs.cells.settle.Goals.{then-flag-eq-MARKED, else-flag-eq-MARKED, then-flag-eq-MISSING, else-flag-eq-MISSING}

pub loop-flag-init : goal.loop-flag-init
loop-flag-init c = (remarked-none 0 _, sym (number-nil _))

pub overflow_add-left : goal.overflow_add-left
overflow_add-left c = omega (arith, number-le (missing c.loop-flag.flags) c.loop-flag.flag-index)

pub loop-flag-preserved : goal.loop-flag-preserved
loop-flag-preserved c =
    let (so_far, count) = c.loop-flag.invariant in (
      elim c.if-flag-eq-MARKED.branch [
        | then-flag-eq-MARKED w ↦ rw w.flag-is (remarked-more _ _ _ _ so_far (omega (arith, so_far.size)) w.if-flag-eq-MARKED.true)
        | else-flag-eq-MARKED w ↦ rw (w.flag-is, set-get_or) (remarked-skip _ _ _ _ so_far w.if-flag-eq-MARKED.false)
      ],
      elim c.if-flag-eq-MISSING.branch [
        | then-flag-eq-MISSING w ↦ omega (arith, w.left-is, count, counted-in c.loop-flag.flags c.loop-flag.flag-index c.if-flag-eq-MARKED.flag (omega (arith, so_far.size)) w.if-flag-eq-MISSING.true)
        | else-flag-eq-MISSING w ↦ omega (arith, w.left-is, count, counted-out c.loop-flag.flags c.loop-flag.flag-index c.if-flag-eq-MARKED.flag (omega (arith, so_far.size)) w.if-flag-eq-MISSING.false)
      ],
    )
