-- `jibrufath::texts::jibrufath_text_bytes` meets its contract.
use mathlib.Core.Path.{refl}
use Prim.Native.Nat.{ℕ}
use native.Mathlib.Omega.{arith}
use Rattle.jibrufath.proofs.TextBounds.{text-size-lt}
use Rattle.jibrufath.proofs.texts.jibrufath_text_bytes.Goals as goal

pub size_word-requires : goal.size_word-requires
size_word-requires c = rw c.text_bytes.ensures (text-size-lt _ _ refl (λ (i : ℕ). omega (arith, c.shared_slice_known-1.given i)))
