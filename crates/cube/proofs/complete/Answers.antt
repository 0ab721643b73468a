-- `complete` refuses by the checks and changes nothing, or leaves the code cube of the data that stands in the cube.
use Rattle.answer.proofs.Values.{value-passed, value-refused}
use Rattle.answer.specs.Values.{value_of}
use Rattle.field.proofs.Primitive.{primitive}
use Rattle.data.proofs.Checks.{cube-sized-done, cube-sized-passed, cube-sized-refused}
use Rattle.cube.specs.Calls.{complete_done}
use Rattle.cube.proofs.Outcomes.{complete-unfit}
use Rattle.cube.proofs.complete.Goals as goal

pub returns-in_err-cube_fits : goal.returns-in_err-cube_fits
returns-in_err-cube_fits c = complete-unfit _ _ _ _ (cube-sized-refused _ _ _ (value-refused _ _ _ c.cube_fits.ensures c.in_err-cube_fits.was)) _ c.from_residual.ensures.1

pub complete_cube-requires : goal.complete_cube-requires
complete_cube-requires c =
    let (valid, bytes, _) = cube-sized-done _ _ _ (value-passed _ _ _ c.cube_fits.ensures c.in_ok-cube_fits.was) in
    (record { valid = valid; size = bytes }, rw c.reduction.ensures primitive)

pub returns : goal.returns
unfolding value_of
returns c =
    complete_done (cube-sized-passed _ _ _ (value-passed _ _ _ c.cube_fits.ensures c.in_ok-cube_fits.was)) (rw c.reduction.ensures at c.complete_cube.ensures)
