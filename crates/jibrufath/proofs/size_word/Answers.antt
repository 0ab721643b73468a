-- `jibrufath::size_word` meets its contract.
use Rattle.answer.specs.Values.{value_of}
use mathlib.Core.Path.{sym, ap}
use native.Mathlib.Omega.{arith}
use Rattle.jibrufath.specs.Exports.{whole}
use Rattle.jibrufath.proofs.Words.{packed-result, refused-place, refused-packed}
use Rattle.jibrufath.proofs.TextBounds.{size-beside}
use Rattle.jibrufath.proofs.size_word.Goals as goal

pub overflow_mul-result : goal.overflow_mul-result
overflow_mul-result c = omega (arith, size-beside _ _ c.in-Ok.is, c.requires)

pub refusal_word-requires : goal.refusal_word-requires
unfolding value_of
refusal_word-requires c = refused-place whole _ _ (ap value_of c.in-Err.is) c.requires

pub returns-in-Ok : goal.returns-in-Ok
unfolding value_of whole
returns-in-Ok c = sym (packed-result whole _ _ (ap value_of c.in-Ok.is))

pub returns-in-Err : goal.returns-in-Err
unfolding value_of
returns-in-Err c = refused-packed whole _ _ (ap value_of c.in-Err.is) _ c.refusal_word.ensures
