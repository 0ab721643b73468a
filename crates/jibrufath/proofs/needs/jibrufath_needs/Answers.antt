-- `jibrufath::needs::jibrufath_needs` meets its contract.
use Rattle.answer.proofs.Values.{checked-fails, value-passed, value-refused}
use Rattle.pack.proofs.Sound.{header-sound}
use Rattle.jibrufath.specs.Needs.{needs_in}
use Rattle.jibrufath.specs.Exports.{uncounted}
use Rattle.jibrufath.proofs.Words.{checked-refusal, checked-result}
use Rattle.jibrufath.proofs.needs.jibrufath_needs.Goals as goal

pub needs_of-requires : goal.needs_of-requires
needs_of-requires c =
    header-sound _ _ _ (value-passed _ _ _ c.read_header.ensures c.in-Ok.is)

pub returns-in-Err : goal.returns-in-Err
unfolding needs_in
returns-in-Err c =
    let e = value-refused _ _ _ c.read_header.ensures c.in-Err.is in
    let (n, fails, same) = checked-fails {B = Unit} _ _ e in
    record { word_packed = checked-refusal uncounted _ _ _ e c.number.ensures; needed = rw fails }

pub returns-in-Ok : goal.returns-in-Ok
unfolding needs_in uncounted
returns-in-Ok c =
    let e = value-passed _ _ _ c.read_header.ensures c.in-Ok.is in
    record { word_packed = checked-result uncounted _ _ e; needed = rw e c.needs_of.ensures }
