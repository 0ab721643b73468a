-- `shape::lengths_fit` meets its contract.
use mathlib.Core.Path.{sym, ◌∙◌}
use mathlib.Core.Bool.{false≢true}
use Rattle.shape.specs.Shapes.{both, lengths_fit}
use Rattle.shape.proofs.lengths_fit.Goals as goal
use Rattle.shape.proofs.lengths_fit.Goals.{then-within, else-within}

pub returns-then-within-2 : goal.returns-then-within-2
unfolding lengths_fit both
returns-then-within-2 c =
    elim c.if-within.branch [
      | then-within w ↦
          rw (
            sym c.within.ensures ∙ w.if-within.true,
            sym w.within-then-within.ensures ∙ sym w.value-is ∙ c.if-within-2.true,
          )
          c.within-then-within-2.ensures
      | else-within w ↦ absurd (false≢true (sym w.if-within.false ∙ sym w.value-is ∙ c.if-within-2.true))
    ]

pub returns-else-within-2 : goal.returns-else-within-2
unfolding lengths_fit both
returns-else-within-2 c =
    elim c.if-within.branch [
      | then-within w ↦
          rw (
            sym c.within.ensures ∙ w.if-within.true,
            sym w.within-then-within.ensures ∙ sym w.value-is ∙ c.if-within-2.false,
          )
          c.if-within-2.false
      | else-within w ↦ rw (sym c.within.ensures ∙ w.if-within.false) c.if-within-2.false
    ]
