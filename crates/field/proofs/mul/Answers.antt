-- `mul` is `dot` with a second product that is 0.
use mathlib.Core.Path.{◌∙◌}
use Rattle.field.proofs.Addition.{add_zero_r}
use Rattle.field.proofs.Multiplication.{mul-zero-l}
use Rattle.field.proofs.mul.Goals as goal

pub returns : goal.returns
returns c = c.dot.ensures ∙ rw mul-zero-l (add_zero_r _)
