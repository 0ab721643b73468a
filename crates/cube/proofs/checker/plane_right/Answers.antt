-- `cube::checker::plane_right` meets its contract: the columns of a plane and its rows are blocks of lines. Assumes nothing.
use native.Mathlib.Omega.{arith}
use Rattle.cube.proofs.RightLines.{rows-blocks, columns-blocks}
use Rattle.cube.proofs.checker.plane_right.Goals as goal

pub lines_right-requires : goal.lines_right-requires
lines_right-requires c = (c.requires.0, (omega arith, omega arith), columns-blocks _ _ c.requires.1)

pub lines_right-requires-then-lines_right : goal.lines_right-requires-then-lines_right
lines_right-requires-then-lines_right c = (c.requires.0, (omega arith, omega arith), rows-blocks _ _ c.requires.1)
