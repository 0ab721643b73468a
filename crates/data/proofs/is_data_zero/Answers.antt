-- `data::is_data_zero` meets its contract. Assumes nothing.
use mathlib.Core.Path.{◌≡◌, ap}
use lib.ListN.{length}
use Rattle.answer.specs.Values.{passes, value_of}
use Rattle.answer.proofs.Values.{value-passed, value-refused}
use Rattle.shape.specs.declared.Sizes.{Sizes}
use Rattle.shape.specs.Shapes.{sizes}
use Rattle.data.specs.Calls.{cube_sized, zero_done}
use Rattle.data.proofs.Checks.{cube-sized-done, cube-sized-passed, cube-sized-refused}
use Rattle.data.proofs.Outcomes.{zero-unfit}
use Rattle.data.proofs.is_data_zero.Goals as goal
use Rattle.data.proofs.is_data_zero.Goals.{In_ok-z}

-- the checks have passed
fits : (c : In_ok-z) → cube_sized c.args.sh (length c.args.cube.now) ≡ passes c.in_ok-z.z
fits c = value-passed _ _ _ c.cube_fits.ensures c.in_ok-z.was

pub returns-in_err-z : goal.returns-in_err-z
returns-in_err-z c =
    zero-unfit _ _ _ _ (cube-sized-refused _ _ _ (value-refused _ _ _ c.cube_fits.ensures c.in_err-z.was)) _
    c.from_residual.ensures.1

pub zero_from-requires : goal.zero_from-requires
unfolding sizes
zero_from-requires c =
    let (v, size, same) = cube-sized-done _ _ _ (fits (goal.at.zero_from-requires c).In_ok-z) in
    (record { valid = v; size = size }, ap (λ (z : Sizes). z.capacity) same)

pub returns : goal.returns
unfolding value_of
returns c = zero_done _ (cube-sized-passed _ _ _ (fits (goal.at.returns c).In_ok-z)) c.zero_from.ensures
