-- `jibrufath::packs::ending_word` meets its contract: a count below 2^32, times 256, fits a machine word.
use native.Mathlib.Omega.{arith}
use Rattle.jibrufath.proofs.Endings.{left-beside, file-word, left_word}
use Rattle.jibrufath.proofs.packs.ending_word.Goals as goal

pub overflow_mul-result : goal.overflow_mul-result
overflow_mul-result c = omega (arith, left-beside _ _ c.in-Left.is, c.requires)

pub returns-in-File : goal.returns-in-File
returns-in-File c = file-word _ _ c.in-File.is

pub returns-in-Left : goal.returns-in-Left
returns-in-Left c = left_word _ _ c.in-Left.is
