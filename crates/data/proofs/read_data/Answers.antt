-- `read_data` refuses by the checks and changes nothing, or copies the bytes asked for.
use Rattle.answer.proofs.Values.{value-passed, value-refused}
use Rattle.answer.specs.Values.{value_of}
use Rattle.data.specs.Calls.{read_done}
use Rattle.data.proofs.Checks.{read-checked-done}
use Rattle.data.proofs.Outcomes.{read-unfit}
use Rattle.data.proofs.read_data.Goals as goal

pub returns-in_err-spans_fit : goal.returns-in_err-spans_fit
returns-in_err-spans_fit c = read-unfit _ _ _ _ _ _ _ (value-refused _ _ _ c.spans_fit.ensures c.in_err-spans_fit.was) _ c.from_residual.ensures.1

pub copy_data-requires : goal.copy_data-requires
copy_data-requires c =
    let (valid, size, part, room) = read-checked-done _ _ _ _ _ _ (value-passed _ _ _ c.spans_fit.ensures c.in_ok-spans_fit.was) in
    (record { valid = valid; size = size }, part, room)

pub returns : goal.returns
unfolding value_of
returns c =
    read_done (value-passed _ _ _ c.spans_fit.ensures c.in_ok-spans_fit.was) c.copy_data.ensures
