-- `cube::is_code_cube` meets its contract. Assumes nothing.
use Rattle.answer.proofs.Values.{value-passed, value-refused}
use Rattle.answer.specs.Values.{value_of}
use Rattle.cube.specs.Calls.{check_done}
use Rattle.data.proofs.Checks.{cube-sized-done, cube-sized-passed, cube-sized-refused}
use Rattle.cube.proofs.Outcomes.{check-unfit}
use Rattle.cube.proofs.is_code_cube.Goals as goal

pub all_right-requires : goal.all_right-requires
all_right-requires c =
    let (valid, size, _) = cube-sized-done _ _ _ (value-passed _ _ _ c.cube_fits.ensures c.in_ok-cube_fits.was) in
    record { valid = valid; size = size }

pub returns-in_err-cube_fits : goal.returns-in_err-cube_fits
returns-in_err-cube_fits c = check-unfit _ _ _ _ (cube-sized-refused _ _ _ (value-refused _ _ _ c.cube_fits.ensures c.in_err-cube_fits.was)) _ c.from_residual.ensures.1

pub returns : goal.returns
unfolding value_of
returns c =
    check_done _ (cube-sized-passed _ _ _ (value-passed _ _ _ c.cube_fits.ensures c.in_ok-cube_fits.was)) (rw c.reduction.ensures at c.all_right.ensures)
