-- `jibrufath::texts::jibrufath_text_pack_bytes` meets its contract.
use Rattle.jibrufath.proofs.TextBounds.{pack-size-lt}
use Rattle.jibrufath.proofs.texts.jibrufath_text_pack_bytes.Goals as goal

pub size_word-requires : goal.size_word-requires
size_word-requires c = pack-size-lt c.text_pack_bytes.ensures
