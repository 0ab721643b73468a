-- `data::spans_fit` meets its contract. Assumes nothing.
use mathlib.Core.Path.{sym, ◌∙◌}
use Rattle.answer.specs.Refusals.{fault_number}
use Rattle.answer.specs.Values.{and_then, check, checked, refusal, value_of}
use Rattle.answer.proofs.Values.{handed-on, then-refused, value-passed, value-refused}
use Rattle.data.proofs.Checks.{read-sized-then}
use Rattle.data.proofs.spans_fit.Goals as goal
use Rattle.data.proofs.spans_fit.Goals.{then-not-inside-via-then-not-inside, then-not-inside-via-else-not-inside+then-not-inside-2}

pub returns-in_err-z : goal.returns-in_err-z
returns-in_err-z c =
    rw (read-sized-then _ _ _ _ _ _)
    (handed-on _ _ _ c.from_residual.ensures.1 (then-refused _ _ _ (value-refused _ _ _ c.cube_fits.ensures c.in_err-z.was)))

pub returns-then-not-inside : goal.returns-then-not-inside
unfolding value_of refusal fault_number and_then check checked
returns-then-not-inside c =
    rw (read-sized-then _ _ _ _ _ _, value-passed _ _ _ c.cube_fits.ensures c.in_ok-z.was)
    (elim c.then-not-inside.branch [
      | then-not-inside-via-then-not-inside w ↦ rw (sym c.inside.ensures ∙ w.if-not-inside.true)
      | then-not-inside-via-else-not-inside+then-not-inside-2 w ↦
          rw (sym c.inside.ensures ∙ w.if-not-inside.false, sym w.inside-else-not-inside.ensures ∙ w.if-not-inside-2.true)
    ])

pub returns : goal.returns
unfolding value_of and_then check checked
returns c =
    rw (
      read-sized-then _ _ _ _ _ _,
      value-passed _ _ _ c.cube_fits.ensures c.in_ok-z.was,
      sym c.inside.ensures ∙ c.if-not-inside.false,
      sym c.inside-else-not-inside.ensures ∙ c.if-not-inside-2.false,
    )
