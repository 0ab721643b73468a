-- `jibrufath::packs::receive_counts` meets its contract.
use Rattle.jibrufath.specs.Packs.{places}
use Rattle.jibrufath.proofs.packs.receive_counts.Goals as goal

pub returns : goal.returns
unfolding places
returns c = rw c.file_bytes.ensures
