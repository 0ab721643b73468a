-- `extract` refuses by the checks and changes nothing, or leaves the data string of the cube.
use Rattle.answer.proofs.Values.{value-passed, value-refused}
use Rattle.answer.specs.Values.{value_of}
use native.Mathlib.Omega.{arith}
use Rattle.data.proofs.Checks.{checked-done}
use Rattle.data.specs.Calls.{extract_done}
use Rattle.data.proofs.Reading.{read_whole}
use Rattle.data.proofs.Outcomes.{extract-unfit}
use Rattle.data.proofs.extract.Goals as goal

pub returns-in_err-slices_fit : goal.returns-in_err-slices_fit
returns-in_err-slices_fit c = extract-unfit _ _ _ _ (value-refused _ _ _ c.slices_fit.ensures c.in_err-slices_fit.was) _ c.from_residual.ensures.1

pub copy_data-requires : goal.copy_data-requires
copy_data-requires c =
    let (valid, part, bytes) = checked-done _ _ _ (value-passed _ _ _ c.slices_fit.ensures c.in_ok-slices_fit.was) in
    (record { valid = valid; size = bytes }, omega (arith, part), omega arith)

pub returns : goal.returns
unfolding value_of
returns c =
    let checks = value-passed _ _ _ c.slices_fit.ensures c.in_ok-slices_fit.was in
    extract_done checks (read_whole _ _ (checked-done _ _ _ checks).0 _ _ (checked-done _ _ _ checks).1 c.copy_data.ensures)
