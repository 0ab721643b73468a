-- `text::lines::shape_line` meets its contract.
use Rattle.span.proofs.Decision.{decides-false, decides-true}
use Rattle.text.proofs.Parts.{number-some, number-none, three-some, three-none, lengths_none, width-none, line-end-none, shape-read}
use Rattle.text.proofs.lines.shape_line.Goals as goal

pub returns-in_err-l1 : goal.returns-in_err-l1
returns-in_err-l1 c = rw c.from_residual.ensures (lengths_none _ (three-none _ c.three.ensures c.in_err-l1.was))

pub returns-in_err-w : goal.returns-in_err-w
returns-in_err-w c =
    rw c.from_residual-in_err-w.ensures
    (width-none _ _ _ _ _ (three-some _ _ _ _ _ c.three.ensures c.in_ok-l1.was)
    (number-none _ c.labelled.ensures c.in_err-w.was))

pub returns-then-not-hex_line : goal.returns-then-not-hex_line
returns-then-not-hex_line c =
    line-end-none _ _ _ _ _ (three-some _ _ _ _ _ c.three.ensures c.in_ok-l1.was) _ _
    (number-some _ _ _ c.labelled.ensures c.in_ok-w.was)
    (decides-false c.hex_line.ensures c.if-not-hex_line.true)

pub returns : goal.returns
returns c =
    shape-read _ _ _ _ _ (three-some _ _ _ _ _ c.three.ensures c.in_ok-l1.was) _ _
    (number-some _ _ _ c.labelled.ensures c.in_ok-w.was)
    (decides-true c.hex_line.ensures c.if-not-hex_line.false)
