-- `jibrufath::cubes::jibrufath_mend_axis` meets its contract: the call names no place.
use native.Mathlib.Omega.{arith}
use Rattle.jibrufath.specs.Exports.{shape}
use Rattle.jibrufath.proofs.Places.{axis-places}
use Rattle.jibrufath.proofs.cubes.jibrufath_mend_axis.Goals as goal

pub answer_word-requires : goal.answer_word-requires
answer_word-requires c = rw (axis-places c.mend_axis.ensures) (omega arith)

pub returns : goal.returns
unfolding shape
returns c = record { value = _; outcome = c.mend_axis.ensures; word_packed = c.answer_word.ensures }
