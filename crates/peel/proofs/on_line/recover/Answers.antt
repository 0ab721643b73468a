-- `peel::on_line::recover` writes the missing cells of neighbouring lines.
use Prim.Native.Nat.{◌≤◌}
use native.Mathlib.Omega.{arith}
use Rattle.shape.proofs.Geometry.{line-length-high}
use Rattle.cube.proofs.Completing.{outcome-solved}
use Rattle.peel.specs.Inner.OnLine.{run_of}
use Rattle.peel.proofs.Lines.{neighbours-first, first-room, stride-room, width_room, lines-inside}
use Rattle.peel.proofs.on_line.recover.Goals as goal
use Rattle.peel.proofs.on_line.recover.Goals.{Start}

few : (c : Start) → c.args.line.len ≤ 255
few c = line-length-high _ _ _ _ c.requires.is_cube.valid (neighbours-first c.requires.neighbours)

pub overflow_mul-run : goal.overflow_mul-run
overflow_mul-run c = omega (arith, first-room _ c.args.cube.now c.requires.is_cube.valid c.requires.is_cube.size _ _ _ _ c.requires.neighbours)

pub overflow_mul-run-2 : goal.overflow_mul-run-2
overflow_mul-run-2 c = omega (arith, stride-room _ c.args.cube.now c.requires.is_cube.valid c.requires.is_cube.size _ _ _ _ c.requires.neighbours)

pub overflow_mul-run-3 : goal.overflow_mul-run-3
overflow_mul-run-3 c = omega (arith, width_room _ c.args.cube.now c.requires.is_cube.valid c.requires.is_cube.size _ _ _ _ c.requires.neighbours)

pub overflow_cast-e : goal.overflow_cast-e
overflow_cast-e c = omega (arith, few (goal.at.overflow_cast-e c).Start, c.requires.first_le_last)

pub overflow_cast-e-2 : goal.overflow_cast-e-2
overflow_cast-e-2 c = omega (arith, few (goal.at.overflow_cast-e-2 c).Start, c.requires.first_le_last)

pub returns : goal.returns
unfolding run_of
returns c =
    outcome-solved _ _ _ _ _ _ _ (rw (c.erasures_at-erasures.ensures, c.reduction-reduction.ensures) at c.solve.ensures)
    (lines-inside _ c.args.cube.now c.requires.is_cube.valid c.requires.is_cube.size _ _ _ _ c.requires.neighbours) c.requires.first_le_last.0 c.requires.first_le_last.1
