-- `jibrufath::cubes::jibrufath_encode` meets its contract: the call names no place.
use native.Mathlib.Omega.{arith}
use Rattle.jibrufath.specs.Exports.{shape}
use Rattle.jibrufath.proofs.Places.{encode-places}
use Rattle.jibrufath.proofs.cubes.jibrufath_encode.Goals as goal

pub answer_word-requires : goal.answer_word-requires
answer_word-requires c = rw (encode-places c.encode.ensures) (omega arith)

pub returns : goal.returns
unfolding shape
returns c = record { value = _; outcome = c.encode.ensures; word_packed = c.answer_word.ensures }
