-- `receive::pieces::separator` meets its contract. Assumes nothing.
use mathlib.Core.Path.{sym, ◌∙◌}
use mathlib.Core.Bool.{true≢false}
use borrow.Author.Tests.{eq-eqb, ne_eqb}
use Rattle.receive.specs.Printed.{separator}
use Rattle.receive.proofs.pieces.separator.Goals as goal
use Rattle.receive.proofs.pieces.separator.Goals.{then-i-n, else-i-n}

pub returns-then-i-eq15 : goal.returns-then-i-eq15
unfolding separator
returns-then-i-eq15 c =
    elim c.if-i-n.branch [
      | then-i-n w ↦ rw (eq-eqb _ _ w.if-i-n.true)
      | else-i-n w ↦ rw (ne_eqb _ _ w.if-i-n.false, sym w.value-is ∙ c.if-i-eq15.true)
    ]

pub returns-else-i-eq15 : goal.returns-else-i-eq15
unfolding separator
returns-else-i-eq15 c =
    elim c.if-i-n.branch [
      | then-i-n w ↦ absurd (true≢false (sym (eq-eqb _ _ w.if-i-n.true) ∙ sym w.value-is ∙ c.if-i-eq15.false))
      | else-i-n w ↦ rw (ne_eqb _ _ w.if-i-n.false, sym w.value-is ∙ c.if-i-eq15.false)
    ]
