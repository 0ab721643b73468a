-- `jibrufath::sizes::jibrufath_pack_bytes` meets its contract: the size of a pack, times 256, fits a machine word.
use native.Mathlib.Omega.{arith}
use Rattle.jibrufath.specs.Exports.{shape, whole}
use Rattle.jibrufath.proofs.Words.{checked-below}
use Rattle.jibrufath.proofs.SizeBounds.{pack-size-le}
use Rattle.jibrufath.proofs.sizes.jibrufath_pack_bytes.Goals as goal

pub size_word-requires : goal.size_word-requires
unfolding whole
size_word-requires c =
    rw c.pack_bytes.ensures (checked-below whole _ _ (omega arith) (λ n e. omega (arith, pack-size-le _ n e)))

pub returns : goal.returns
unfolding shape whole
returns c = rw c.pack_bytes.ensures at c.size_word.ensures
