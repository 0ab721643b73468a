-- `jibrufath::sizes::jibrufath_cells` meets its contract: the size, times 256, fits a machine word.
use mathlib.Core.Path.{◌∙◌}
use native.Mathlib.Omega.{arith}
use Rattle.std.proofs.Common.{rules}
use Rattle.jibrufath.specs.Exports.{shape}
use Rattle.jibrufath.proofs.SizeBounds.{size-lt, size-packed}
use Rattle.jibrufath.proofs.sizes.jibrufath_cells.Goals as goal

pub size_word-requires : goal.size_word-requires
size_word-requires c =
    size-lt (λ z. z.cells) _ _ _ _ c.measure.ensures c.map.ensures.cases (λ z n p. search rules) (λ z b. omega (arith, b.cells_le))

pub returns : goal.returns
unfolding shape
returns c =
    c.size_word.ensures ∙ size-packed (λ z. z.cells) _ _ _ _ c.measure.ensures c.map.ensures.cases (λ z n p. search rules)
