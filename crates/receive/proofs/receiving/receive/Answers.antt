-- `receive::receiving::receive` meets its contract. Assumes nothing.
use Rattle.answer.proofs.Values.{value-passed, value-refused}
use Rattle.receive.specs.Outcomes.{input_too_big}
use Rattle.receive.proofs.Endings.{refused-input}
use Rattle.receive.proofs.receiving.receive.Goals as goal

pub returns-then-air-gt-LIMIT : goal.returns-then-air-gt-LIMIT
returns-then-air-gt-LIMIT c = input_too_big c.if-air-gt-LIMIT.true

pub take-requires : goal.take-requires
take-requires c =
    let p = c.requires in
    (p.0, p.1, p.2, c.if-air-gt-LIMIT.false, (_, value-passed _ _ _ c.read_air.ensures c.in-Ok.is))

pub returns-in-Err : goal.returns-in-Err
returns-in-Err c =
    refused-input _ _ _ _ _ c.if-air-gt-LIMIT.false (value-refused _ _ _ c.read_air.ensures c.in-Err.is) c.number.ensures
