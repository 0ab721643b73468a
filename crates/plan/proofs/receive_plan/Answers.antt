-- `plan::receive_plan` meets its contract.
use Rattle.std.specs.Prelude.{Err}
use Rattle.std.proofs.lemmas.Result.{err_from_is_err_and}
use mathlib.Core.Path.{refl, sym, ap, ◌∙◌}
use lib.Seq.{length-take-le}
use Rattle.plan.specs.Receiving.{no_entries}
use Rattle.plan.proofs.Passing.{refused-passed, left-passed, file-le, plan-refused, plan-shown}
use Rattle.plan.proofs.receive_plan.Goals as goal

pub returns-in_err-received : goal.returns-in_err-received
returns-in_err-received c =
    let (f, is, same) = err_from_is_err_and c.from_residual.result c.from_residual.ensures.1 in
    refused-passed _ c.receive_pack.ensures _ _ c.in_err-received.was (is ∙ ap Err same) _

pub returns-in-Left : goal.returns-in-Left
unfolding no_entries
returns-in-Left c = left-passed _ c.receive_pack.ensures _ c.in_ok-received.was _ _ c.in-Left.is refl _

pub slice_bounds-read_plan-end : goal.slice_bounds-read_plan-end
slice_bounds-read_plan-end c = file-le _ c.receive_pack.ensures _ c.in_ok-received.was _ c.in-File.is

pub slice_bounds-read_plan-end-in-File : goal.slice_bounds-read_plan-end-in-File
slice_bounds-read_plan-end-in-File c = sym (length-take-le _ _ (file-le _ c.receive_pack.ensures _ c.in_ok-received.was _ c.in-File.is))

pub returns-in_err-read_plan-in-File : goal.returns-in_err-read_plan-in-File
returns-in_err-read_plan-in-File c =
    let (f, is, same) = err_from_is_err_and c.from_residual-in_err-read_plan-in-File.result c.from_residual-in_err-read_plan-in-File.ensures.1 in
    plan-refused _ c.receive_pack.ensures _ c.in_ok-received.was _ c.in-File.is _ c.read_plan.ensures _ _ c.in_err-read_plan-in-File.was (is ∙ ap Err same)

pub returns-in_ok-read_plan-in-File : goal.returns-in_ok-read_plan-in-File
returns-in_ok-read_plan-in-File c =
    plan-shown _ c.receive_pack.ensures _ c.in_ok-received.was _ c.in-File.is _ c.read_plan.ensures _ c.in_ok-read_plan-in-File.was
