-- `fill::check` makes the checks 1 to 5 in their order.
use Rattle.answer.proofs.Values.{value-passed, value-refused, then-refused, handed-on}
use mathlib.Core.Path.{◌≡◌, sym, ◌∙◌}
use mathlib.Core.Logic.{inl, inr, ⊎_elim}
use mathlib.Core.Bool.{true, false}
use Rattle.answer.specs.Values.{passes}
use Rattle.shape.specs.Shapes.{shape_checked}
use Rattle.fill.specs.Fill.{flags_checked}
use Rattle.fill.proofs.Checks.{checked-length, checked-flags}
use Rattle.fill.proofs.check.Goals as goal
use Rattle.fill.proofs.check.Goals.{In_ok-z}

fits : (c : In_ok-z) → shape_checked c.args.sh ≡ passes c.in_ok-z.z
fits c = value-passed _ _ _ c.measure.ensures c.in_ok-z.was

pub returns-in_err-z : goal.returns-in_err-z
unfolding flags_checked
returns-in_err-z c =
    handed-on _ _ _ c.from_residual.ensures.1 (then-refused _ _ _ (value-refused _ _ _ c.measure.ensures c.in_err-z.was))

pub returns-then-cube_length-z : goal.returns-then-cube_length-z
returns-then-cube_length-z c =
    checked-length _ _ _ _ (fits (goal.at.returns-then-cube_length-z c).In_ok-z) (⊎_elim (λ w. inl w) (λ w. inr w.1) c.then-cube_length-z.either)

pub returns-then-not-valid : goal.returns-then-not-valid
returns-then-not-valid c =
    checked-flags _ _ _ _ (fits (goal.at.returns-then-not-valid c).In_ok-z) false c.if-cube_length-z.false
    c.if-flags-z.false (sym c.valid.ensures ∙ c.if-not-valid.true)

pub returns : goal.returns
returns c =
    checked-flags _ _ _ _ (fits (goal.at.returns c).In_ok-z) true c.if-cube_length-z.false
    c.if-flags-z.false (sym c.valid.ensures ∙ c.if-not-valid.false)
