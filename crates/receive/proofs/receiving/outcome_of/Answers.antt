-- `receive::receiving::outcome_of` meets its contract. Assumes nothing.
use Rattle.receive.proofs.Endings.{ended-refused, ended-came}
use Rattle.receive.proofs.receiving.outcome_of.Goals as goal

pub returns-in-Err : goal.returns-in-Err
returns-in-Err c = ended-refused _ _ _ _ c.in-Err.is c.number.ensures

pub returns-in-Ok : goal.returns-in-Ok
returns-in-Ok c = ended-came _ _ _ c.in-Ok.is
