-- `plan_form::splices::closure` meets its contract.
use Rattle.plan_form.specs.Entries.{closure_of}
use Rattle.plan_form.proofs.splices.closure.Goals as goal

pub returns : goal.returns
unfolding closure_of
returns c = c.half.ensures
