-- `jibrufath::lines::jibrufath_scan` meets its contract.
use Rattle.answer.proofs.Values.{checked-fails, value-passed, value-refused}
use Rattle.jibrufath.specs.Exports.{shape, uncounted}
use Rattle.jibrufath.specs.Lines.{scan_counts}
use Rattle.jibrufath.proofs.Words.{checked-refusal, checked-result}
use Rattle.jibrufath.proofs.lines.jibrufath_scan.Goals as goal

pub returns-in-Err : goal.returns-in-Err
unfolding scan_counts shape
returns-in-Err c =
    let e = value-refused _ _ _ c.scan.ensures c.in-Err.is in
    let (n, fails, same) = checked-fails {B = Unit} _ _ e in
    record { word_packed = checked-refusal uncounted _ _ _ e c.number.ensures; counted = rw fails }

pub returns-in-Ok : goal.returns-in-Ok
unfolding scan_counts uncounted shape
returns-in-Ok c =
    let e = value-passed _ _ _ c.scan.ensures c.in-Ok.is in
    record { word_packed = checked-result uncounted _ _ e; counted = rw e }
