-- `pack::packets::is_unsent` meets its contract. Assumes nothing.
use mathlib.Core.Path.{sym, ◌∙◌}
use native.Mathlib.Omega.{arith}
use borrow.Author.Tests.{ltb-true, ltb-false}
use Rattle.pack.proofs.Sent.{parity-1, parity-2, parity-3, data-unsent}
use Rattle.pack.proofs.packets.is_unsent.Goals as goal
use Rattle.pack.proofs.packets.is_unsent.Goals.{then-a-sh, else-a-sh, then-b-sh, else-b-sh}

-- no coordinate is a parity cell's
pub returns-then-c-sh : goal.returns-then-c-sh
returns-then-c-sh c =
    rw (c.from-a.ensures, c.from-b.ensures, c.from-c.ensures)
    (elim c.if-b-sh.branch [
      | then-b-sh w ↦ elim c.if-a-sh.branch [
        | then-a-sh v ↦
            sym (data-unsent _ _ _ _ c.requires.2 c.requires.3
            (omega (arith, c.from-a.ensures, v.if-a-sh.true))
            (omega (arith, c.from-b.ensures, ltb-true _ _ (sym v.value-is ∙ w.if-b-sh.true)))
            (omega (arith, c.from-c.ensures, ltb-true _ _ (sym w.value-is ∙ c.if-c-sh.true))))
        | else-a-sh v ↦ absurd (omega (arith, v.if-a-sh.false, ltb-true _ _ (sym v.value-is ∙ w.if-b-sh.true)))
      ]
      | else-b-sh w ↦ cc
    ])

-- one is
pub returns-else-c-sh : goal.returns-else-c-sh
returns-else-c-sh c =
    c.if-c-sh.false
    ∙ sym (elim c.if-a-sh.branch [
      | then-a-sh v ↦ elim c.if-b-sh.branch [
        | then-b-sh w ↦ parity-3 _ _ _ _ c.requires.2 c.requires.3 (omega (arith, c.from-c.ensures, ltb-false _ _ (sym w.value-is ∙ c.if-c-sh.false)))
        | else-b-sh w ↦ parity-2 _ _ _ _ c.requires.2 c.requires.3 (omega (arith, c.from-b.ensures, ltb-false _ _ (sym v.value-is ∙ w.if-b-sh.false)))
      ]
      | else-a-sh v ↦ parity-1 _ _ _ _ c.requires.2 c.requires.3 (omega (arith, c.from-a.ensures, v.if-a-sh.false))
    ])
