-- `jibrufath::cubes::jibrufath_is_code_cube` meets its contract: the check names no place, and counts 0 or 1.
use mathlib.Core.Path.{◌∙◌}
use Rattle.std.proofs.Common.{rules}
use Rattle.jibrufath.specs.Exports.{shape, truth}
use Rattle.jibrufath.proofs.SizeBounds.{size-taken, truth-from}
use Rattle.jibrufath.proofs.Places.{check-lt}
use Rattle.jibrufath.proofs.cubes.jibrufath_is_code_cube.Goals as goal

pub size_word-requires : goal.size_word-requires
size_word-requires c =
    rw (size-taken truth _ c.is_code_cube.result c.map.result c.map.ensures.cases (λ code n p. truth-from code n (search rules))).1 (check-lt c.is_code_cube.ensures)

pub returns : goal.returns
unfolding shape
returns c =
    record {
      value = _;
      outcome = c.is_code_cube.ensures;
      word_packed = c.size_word.ensures ∙ (size-taken truth _ c.is_code_cube.result c.map.result c.map.ensures.cases (λ code n p. truth-from code n (search rules))).0;
    }
