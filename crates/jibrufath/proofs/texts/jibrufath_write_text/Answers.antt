-- `jibrufath::texts::jibrufath_write_text` meets its contract.
use Prim.Native.Nat.{ℕ}
use native.Mathlib.Omega.{arith}
use Rattle.jibrufath.proofs.TextBounds.{write-text-lt}
use Rattle.jibrufath.proofs.texts.jibrufath_write_text.Goals as goal

pub answer_word-requires : goal.answer_word-requires
answer_word-requires c =
    write-text-lt c.write_text.ensures (λ (i : ℕ). omega (arith, c.shared_slice_known-1.given i))
