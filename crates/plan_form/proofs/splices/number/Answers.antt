-- `plan_form::splices::number` meets its contract.
use Rattle.plan_form.specs.Entries.{fibre_number}
use Rattle.plan_form.proofs.splices.number.Goals as goal

pub returns : goal.returns
unfolding fibre_number
returns c = c.half.ensures.0
