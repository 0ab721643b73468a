-- `jibrufath::packs::file_bytes` meets its contract.
use Rattle.receiver.specs.Receive.{reception_of}
use Rattle.jibrufath.specs.Packs.{file_bytes}
use Rattle.jibrufath.proofs.packs.file_bytes.Goals as goal

pub returns-in-File : goal.returns-in-File
unfolding file_bytes reception_of
returns-in-File c = rw c.in-File.is

pub returns-in-Left : goal.returns-in-Left
unfolding file_bytes reception_of
returns-in-Left c = rw c.in-Left.is
