-- `jibrufath::packs::jibrufath_write_pack` meets its contract: the call names no place.
use native.Mathlib.Omega.{arith}
use Rattle.jibrufath.proofs.Places.{write-places}
use Rattle.jibrufath.proofs.packs.jibrufath_write_pack.Goals as goal

pub answer_word-requires : goal.answer_word-requires
answer_word-requires c = rw (write-places c.write_pack.ensures) (omega arith)
