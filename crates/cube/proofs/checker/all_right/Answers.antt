-- `cube::checker::all_right` meets its contract: a code cube is one whose three axes are right. Assumes nothing.
use native.Mathlib.Omega.{arith}
use Rattle.shape.specs.Shapes.{lines_of}
use Rattle.span.proofs.Decision.{decides-no, decides-false, decides-true, decides-map}
use Rattle.shape.proofs.Axes.{lines-few}
use Rattle.cube.proofs.RightLines.{code-axis, axes-code, axis3-blocks}
use Rattle.cube.proofs.checker.all_right.Goals as goal

pub overflow_mul-sh : goal.overflow_mul-sh
overflow_mul-sh c =
    omega (arith, (axis3-blocks c.args.sh).within, lines-few _ 3 c.requires.valid)

pub lines_right-requires : goal.lines_right-requires
lines_right-requires c =
    (c.requires, (omega arith, omega arith), axis3-blocks _)

pub returns-else-planes_right : goal.returns-else-planes_right
returns-else-planes_right c =
    rw c.if-planes_right.false
    (decides-no (λ h. decides-false c.planes_right.ensures c.if-planes_right.false (code-axis _ _ _ _ h, code-axis _ _ _ _ h)))

pub returns-then-planes_right : goal.returns-then-planes_right
unfolding lines_of
returns-then-planes_right c =
    let planes = decides-true c.planes_right.ensures c.if-planes_right.true in
    decides-map
    (λ third. axes-code _ _ _ c.requires.valid c.requires.size (λ p. omega (arith, c.type_inv.cube p)) planes.0 planes.1 third)
    (λ h. code-axis _ _ 3 _ h) c.lines_right.ensures
