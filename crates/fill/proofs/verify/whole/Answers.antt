-- `fill::verify::whole` answers that no cell is left, or 13 where the cube is no code cube.
use Rattle.span.proofs.Decision.{decides-false}
use Rattle.fill.proofs.Whole.{whole_code, whole-other}
use Rattle.fill.proofs.verify.whole.Goals as goal

pub returns-then-is_code : goal.returns-then-is_code
returns-then-is_code c = whole_code _ _ _ (c.is_code.ensures.yes_then c.if-is_code.true)

pub returns-else-is_code : goal.returns-else-is_code
returns-else-is_code c = whole-other _ _ _ (decides-false c.is_code.ensures c.if-is_code.false)
