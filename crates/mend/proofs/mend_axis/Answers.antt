-- `mend::mend_axis` meets its contract. Assumes nothing.
use Rattle.answer.proofs.Values.{value-passed}
use Rattle.answer.specs.Values.{value_of}
use Rattle.mend.specs.Mend.{axis_done}
use Rattle.mend.proofs.Checks.{axis-mend-ready}
use Rattle.mend.proofs.Outcomes.{axis-unfit}
use Rattle.mend.proofs.mend_axis.Goals as goal

pub returns-in_err-check_axis : goal.returns-in_err-check_axis
returns-in_err-check_axis c =
    axis-unfit _ _ _ _ _ _ _ c.check_axis.ensures c.in_err-check_axis.was c.from_residual.ensures.1

pub pass-requires : goal.pass-requires
pass-requires c =
    let ok = axis-mend-ready _ _ _ (value-passed _ _ _ c.check_axis.ensures c.in_ok-check_axis.was) in
    (record { valid = ok.valid; size = ok.size }, ok.on)

pub returns : goal.returns
unfolding value_of
returns c =
    axis_done (value-passed _ _ _ c.check_axis.ensures c.in_ok-check_axis.was) (rw c.reduction.ensures at c.pass.ensures)
