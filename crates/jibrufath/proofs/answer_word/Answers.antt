-- `jibrufath::answer_word` meets its contract.
use mathlib.Core.Path.{ap}
use Rattle.answer.specs.Values.{number_of, value_of}
use Rattle.jibrufath.specs.Exports.{uncounted, beside, packed}
use Rattle.jibrufath.proofs.Words.{refused-place, refused-packed}
use Rattle.jibrufath.proofs.answer_word.Goals as goal

pub returns-in-Ok : goal.returns-in-Ok
unfolding value_of packed beside uncounted number_of
returns-in-Ok g c = rw c.in-Ok.is

pub refusal_word-requires : goal.refusal_word-requires
unfolding value_of
refusal_word-requires g c = refused-place uncounted _ _ (ap value_of c.in-Err.is) c.requires

pub returns-in-Err : goal.returns-in-Err
unfolding value_of
returns-in-Err g c = refused-packed uncounted _ _ (ap value_of c.in-Err.is) _ c.refusal_word.ensures
