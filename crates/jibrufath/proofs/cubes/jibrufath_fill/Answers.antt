-- `jibrufath::cubes::jibrufath_fill` meets its contract: no more cells are left than a cube has, and the call names no place.
use mathlib.Core.Path.{◌∙◌}
use Rattle.jibrufath.specs.Exports.{shape}
use Rattle.jibrufath.proofs.Places.{fill-lt, fill-packed}
use Rattle.jibrufath.proofs.cubes.jibrufath_fill.Goals as goal

pub size_word-requires : goal.size_word-requires
size_word-requires c = fill-lt c.fill.result c.fill.ensures

pub returns : goal.returns
unfolding shape
returns c = record { value = _; outcome = c.fill.ensures; word_packed = c.size_word.ensures ∙ fill-packed c.fill.result }
