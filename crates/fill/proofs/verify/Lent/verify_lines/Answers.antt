-- `Lent::verify_lines` tells whether every line without a missing cell is a codeword in every layer: the lines of the three axes are all lines.
use mathlib.Core.Path.{◌∙◌, sym}
use mathlib.Core.Bool.{false≢true}
use Rattle.span.proofs.Decision.{decides-false, decides-true}
use Rattle.fill.proofs.Lines.{axis-wrong, axis-last}
use Rattle.fill.proofs.verify.Lent.verify_lines.Goals as goal
use Rattle.fill.proofs.verify.Lent.verify_lines.Goals.{then-verify_axis, else-verify_axis}

pub returns-then-verify_axis-2 : goal.returns-then-verify_axis-2
returns-then-verify_axis-2 c =
    elim c.if-verify_axis.branch [
      | then-verify_axis w ↦
          axis-last _ _ _ _ c.args.self.now.sized.valid (decides-true c.verify_axis.ensures w.if-verify_axis.true)
          (decides-true w.verify_axis-then-verify_axis.ensures (sym w.value-is ∙ c.if-verify_axis-2.true)) _ c.verify_axis-then-verify_axis-2.ensures
      | else-verify_axis w ↦ absurd (false≢true (sym w.if-verify_axis.false ∙ sym w.value-is ∙ c.if-verify_axis-2.true))
    ]

pub returns-else-verify_axis-2 : goal.returns-else-verify_axis-2
returns-else-verify_axis-2 c =
    rw c.if-verify_axis-2.false
    (elim c.if-verify_axis.branch [
      | then-verify_axis w ↦
          axis-wrong _ _ _ _ 2 (decides-false w.verify_axis-then-verify_axis.ensures (sym w.value-is ∙ c.if-verify_axis-2.false))
      | else-verify_axis w ↦ axis-wrong _ _ _ _ 1 (decides-false c.verify_axis.ensures w.if-verify_axis.false)
    ])
