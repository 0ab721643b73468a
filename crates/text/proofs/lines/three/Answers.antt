-- `text::lines::three` meets its contract.
use Rattle.text.proofs.Parts.{number-some, number-none, first-nothing, second-nothing, third-nothing, three-read}
use Rattle.text.proofs.lines.three.Goals as goal

pub returns-in_err-a : goal.returns-in_err-a
returns-in_err-a c = rw c.from_residual.ensures (first-nothing _ _ _ (number-none _ c.labelled.ensures c.in_err-a.was))

pub returns-in_err-b : goal.returns-in_err-b
returns-in_err-b c =
    rw c.from_residual-in_err-b.ensures
    (second-nothing _ _ _ _ _ (number-some _ _ _ c.labelled.ensures c.in_ok-a.was)
    (number-none _ c.labelled-2.ensures c.in_err-b.was))

pub returns-in_err-c : goal.returns-in_err-c
returns-in_err-c c =
    rw c.from_residual-in_err-c.ensures
    (third-nothing _ _ _ _ _ (number-some _ _ _ c.labelled.ensures c.in_ok-a.was) _ _
    (number-some _ _ _ c.labelled-2.ensures c.in_ok-b.was)
    (number-none _ c.labelled-3.ensures c.in_err-c.was))

pub returns : goal.returns
returns c =
    three-read _ _ _ _ _ (number-some _ _ _ c.labelled.ensures c.in_ok-a.was) _ _
    (number-some _ _ _ c.labelled-2.ensures c.in_ok-b.was) _ _
    (number-some _ _ _ c.labelled-3.ensures c.in_ok-c.was)
