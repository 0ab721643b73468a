-- `data::reader::zero_from` goes piece by piece: where each was 00h all bytes are, and where one was not, that one is not.
use native.Mathlib.Omega.{arith}
use Rattle.std.proofs.Common.{rules, tests}
use Rattle.data.proofs.Reading.{zeros-tested}
use Rattle.data.proofs.reader.zero_from.Goals as goal

pub over-requires : goal.over-requires
over-requires c = (c.requires.0.valid, omega (arith, c.requires.1))

pub returns : goal.returns
returns c =
    let start = c.over.ensures in
    zeros-tested _ _ c.requires.0.valid _ _ _ _ _ _ c.requires.0.size c.requires.1 c.all.ensures.ran
    (record { shape = start.0; ends = start.2; stands = λ l. start.3; low = λ l. omega arith; zeros = λ p low less. absurd (omega arith) })
    (λ x q k. search (rules, tests)) (λ x q k. search (rules, tests))
