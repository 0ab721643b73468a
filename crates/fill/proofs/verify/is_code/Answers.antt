-- `fill::verify::is_code` tells whether a cube of the shape's size is a code cube.
use Rattle.cube.proofs.Checking.{check-decided}
use Rattle.fill.proofs.verify.is_code.Goals as goal

pub returns : goal.returns
returns c = rw c.unwrap_or.ensures (check-decided _ _ _ c.requires.valid c.requires.size _ c.is_code_cube.ensures)
