-- `jibrufath::texts::jibrufath_read_text` meets its contract.
use Rattle.jibrufath.proofs.TextBounds.{read-text-lt}
use Rattle.jibrufath.proofs.texts.jibrufath_read_text.Goals as goal

pub answer_word-requires : goal.answer_word-requires
answer_word-requires c = read-text-lt c.read_text.ensures
