-- `encode` refuses by the checks and changes nothing, or leaves the code cube of the data.
use Rattle.answer.proofs.Values.{value-passed, value-refused}
use Rattle.answer.specs.Values.{value_of}
use Rattle.field.proofs.Primitive.{primitive}
use Rattle.data.proofs.Checks.{checked-done}
use Rattle.cube.specs.Calls.{encode_done}
use Rattle.cube.proofs.Outcomes.{encode-unfit}
use Rattle.cube.proofs.encode.Goals as goal

pub returns-in_err-slices_fit : goal.returns-in_err-slices_fit
returns-in_err-slices_fit c = encode-unfit _ _ _ _ _ (value-refused _ _ _ c.slices_fit.ensures c.in_err-slices_fit.was) _ c.from_residual.ensures.1

pub encode_cube-requires : goal.encode_cube-requires
encode_cube-requires c =
    let (valid, capacity, bytes) = checked-done _ _ _ (value-passed _ _ _ c.slices_fit.ensures c.in_ok-slices_fit.was) in
    (record { valid = valid; size = bytes }, capacity, rw c.reduction.ensures primitive)

pub returns : goal.returns
unfolding value_of
returns c =
    encode_done (value-passed _ _ _ c.slices_fit.ensures c.in_ok-slices_fit.was) (rw c.reduction.ensures at c.encode_cube.ensures)
