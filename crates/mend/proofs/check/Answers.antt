-- `mend::check` meets its contract: the shape is asked first, then the three lengths, then the flags. Assumes nothing.
use mathlib.Core.Path.{◌≡◌}
use mathlib.Core.Logic.{⊎_elim}
use lib.ListN.{length}
use borrow.Author.Tests.{eq-eqb, ne_eqb}
use Rattle.answer.specs.Refusals.{fault_number}
use Rattle.answer.specs.Values.{passes, check, and_then, checked, refusal, value_of}
use Rattle.answer.proofs.Values.{then-refused, value-passed, value-refused, handed-on}
use Rattle.shape.specs.Shapes.{both, shape_checked}
use Rattle.mend.specs.Mend.{mend_checked}
use Rattle.mend.proofs.check.Goals as goal
use Rattle.mend.proofs.check.Goals.{In_ok-z}

fits-here : (c : In_ok-z) → shape_checked c.args.sh ≡ passes c.in_ok-z.z
fits-here c = value-passed _ _ _ c.measure.ensures c.in_ok-z.was

pub returns-in_err-z : goal.returns-in_err-z
unfolding mend_checked
returns-in_err-z c =
    handed-on _ _ _ c.from_residual.ensures.1 (then-refused _ _ _ (value-refused _ _ _ c.measure.ensures c.in_err-z.was))

pub returns-then-cube_length-z : goal.returns-then-cube_length-z
unfolding mend_checked and_then check both checked value_of refusal fault_number
returns-then-cube_length-z c =
    let a = c.args in
    let z = c.in_ok-z.z in
    let cells = length a.flags.now in
    rw (fits-here (goal.at.returns-then-cube_length-z c).In_ok-z)
    (⊎_elim (λ w. rw (ne_eqb a.cube_length z.bytes w))
    (⊎_elim (λ w. rw (eq-eqb a.cube_length z.bytes w.0, ne_eqb cells z.cells w.1))
    (λ w. rw (eq-eqb a.cube_length z.bytes w.0, eq-eqb cells z.cells w.1, ne_eqb a.second_length z.bytes w.2)))
    c.then-cube_length-z.either)

pub returns : goal.returns
unfolding mend_checked and_then check both
returns c =
    rw (
      fits-here (goal.at.returns c).In_ok-z,
      eq-eqb _ _ c.if-cube_length-z.false,
      eq-eqb _ _ c.if-flags-z.false,
      eq-eqb _ _ c.if-second_length-z.false,
    )
    c.check_flags.ensures
