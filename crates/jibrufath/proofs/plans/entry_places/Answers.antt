-- `jibrufath::plans::entry_places` meets its contract.
use Rattle.plan.specs.Receiving.{no_entries}
use Rattle.jibrufath.specs.Plans.{entry_places}
use Rattle.jibrufath.proofs.plans.entry_places.Goals as goal

pub returns-in-Some : goal.returns-in-Some
unfolding entry_places
returns-in-Some c = rw c.in-Some.is

pub returns-in-None : goal.returns-in-None
unfolding entry_places no_entries
returns-in-None c = rw c.in-None.is
