-- `encode_planes` goes plane by plane: those below c are coded, and the others are as before.
use Rattle.cube.specs.Inner.Encoder.{PlanesCoded}
use Rattle.cube.proofs.encoder.encode_planes.Given as goal

abbrev pub invariant-loop-c : goal.invariant-loop-c
invariant-loop-c l = PlanesCoded l.reduction l.sh l.c l.initial.cube l.cube
