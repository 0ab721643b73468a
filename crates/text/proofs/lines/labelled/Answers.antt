-- `text::lines::labelled` meets its contract.
use native.Mathlib.Omega.{arith}
use Rattle.span.proofs.Decision.{decides-false, decides-true}
use Rattle.text.proofs.Parts.{label-never, label-found}
use Rattle.text.proofs.lines.labelled.Goals as goal

pub returns-then-not-same : goal.returns-then-not-same
returns-then-not-same c = label-never _ _ _ (omega arith) (decides-false c.same.ensures c.if-not-same.true)

pub returns : goal.returns
returns c = label-found _ _ _ _ (decides-true c.same.ensures c.if-not-same.false) c.number.ensures
