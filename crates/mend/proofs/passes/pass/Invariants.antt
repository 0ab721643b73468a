-- `mend::passes::pass` meets its contract. The invariant: m is a multiple of the stride, and the cube is the one after the runs of the lines
-- below m. Assumes nothing.
use mathlib.Core.Path.{◌≡◌}
use Prim.Native.Nat.{◌≤◌, ◌-◌, ◌%◌}
use Rattle.shape.specs.Shapes.{lines_of, stride_of}
use Rattle.mend.proofs.Correction.{Through}
use Rattle.mend.proofs.passes.pass.Given as goal

abbrev pub invariant-loop-l : goal.invariant-loop-l
invariant-loop-l l = (l.m % stride_of l.sh l.axis ≡ 0) × (l.m ≤ lines_of l.sh l.axis) × Through l.reduction l.sh l.axis l.m l.initial.cube l.cube

abbrev pub decreases-loop-l : goal.decreases-loop-l
decreases-loop-l l = lines_of l.sh l.axis - l.m
