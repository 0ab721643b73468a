-- `jibrufath::cubes::jibrufath_extract` meets its contract: the call names no place.
use native.Mathlib.Omega.{arith}
use Rattle.jibrufath.specs.Exports.{shape}
use Rattle.jibrufath.proofs.Places.{extract-places}
use Rattle.jibrufath.proofs.cubes.jibrufath_extract.Goals as goal

pub answer_word-requires : goal.answer_word-requires
answer_word-requires c = rw (extract-places c.extract.ensures) (omega arith)

pub returns : goal.returns
unfolding shape
returns c = record { value = _; outcome = c.extract.ensures; word_packed = c.answer_word.ensures }
