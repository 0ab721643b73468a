-- `data::slices_fit` meets its contract. Assumes nothing.
use mathlib.Core.Logic.{⊎_elim}
use borrow.Author.Tests.{eq-eqb, ne_eqb}
use Rattle.answer.specs.Refusals.{fault_number}
use Rattle.answer.specs.Values.{and_then, check, checked, refusal, value_of}
use Rattle.answer.proofs.Values.{handed-on, then-refused, value-passed, value-refused}
use Rattle.shape.specs.Shapes.{both}
use Rattle.data.specs.Calls.{slices_checked}
use Rattle.data.proofs.slices_fit.Goals as goal

pub returns-in_err-z : goal.returns-in_err-z
unfolding slices_checked
returns-in_err-z c =
    handed-on _ _ _ c.from_residual.ensures.1 (then-refused _ _ _ (value-refused _ _ _ c.measure.ensures c.in_err-z.was))

pub returns-then-bytes-z : goal.returns-then-bytes-z
unfolding slices_checked both value_of and_then check checked
returns-then-bytes-z c =
    rw (
      value-passed _ _ _ c.measure.ensures c.in_ok-z.was,
      eq-eqb _ _ c.if-capacity-z.true,
      eq-eqb _ _ c.if-bytes-z.true,
    )

pub returns-else-capacity-z : goal.returns-else-capacity-z
unfolding slices_checked both value_of refusal fault_number and_then check checked
returns-else-capacity-z c =
    rw (value-passed _ _ _ c.measure.ensures c.in_ok-z.was)
    (⊎_elim (λ w. rw (eq-eqb _ _ w.0, ne_eqb c.args.bytes c.in_ok-z.z.bytes w.1)) (λ w. rw (ne_eqb c.args.capacity c.in_ok-z.z.capacity w)) c.else-capacity-z.either)
