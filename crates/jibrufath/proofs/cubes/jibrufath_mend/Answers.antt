-- `jibrufath::cubes::jibrufath_mend` meets its contract: the call names no place.
use native.Mathlib.Omega.{arith}
use Rattle.jibrufath.specs.Exports.{shape}
use Rattle.jibrufath.proofs.Places.{mend-places}
use Rattle.jibrufath.proofs.cubes.jibrufath_mend.Goals as goal

pub answer_word-requires : goal.answer_word-requires
answer_word-requires c = rw (mend-places c.mend.ensures) (omega arith)

pub returns : goal.returns
unfolding shape
returns c = record { value = _; outcome = c.mend.ensures; word_packed = c.answer_word.ensures }
