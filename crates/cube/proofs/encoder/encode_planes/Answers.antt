-- `encode_planes` goes plane by plane: those below c are coded, and the others are as before.
use mathlib.Core.Path.{◌≡◌, ◌∙◌}
use Prim.Native.Nat.{◌+◌, ◌*◌, ◌≤◌}
use native.Mathlib.Omega.{arith}
use lib.ListN.{length}
use Rattle.cube.specs.Inner.Encoder.{plane_bytes}
use Rattle.shape.proofs.Bounds.{Small, small}
use Rattle.cube.proofs.Bytes.{plane-inside}
use Rattle.cube.proofs.Lending.{lent_length}
use Rattle.cube.proofs.Planes.{planes-coded-none, planes-coded-more}
use Rattle.cube.proofs.encoder.encode_planes.Goals as goal
use Rattle.cube.proofs.encoder.encode_planes.Goals.{In-loop-c, Start}

sizes : (s : Start) → Small s.args.sh
sizes s = small s.args.sh s.requires.0.valid

-- the plane lies inside
inside : (c : In-loop-c) →
    c.loop-c.c * plane_bytes c.args.sh + plane_bytes c.args.sh ≤ length c.loop-c.cube
inside c = let plane = plane-inside c.args.sh c.loop-c.c c.loop-c-test.true in omega arith

pub overflow_mul-plane : goal.overflow_mul-plane
overflow_mul-plane c = omega (arith, sizes (goal.at.overflow_mul-plane c).Start)

pub overflow_mul-plane-2 : goal.overflow_mul-plane-2
overflow_mul-plane-2 c = omega (arith, sizes (goal.at.overflow_mul-plane-2 c).Start)

pub loop-c-init : goal.loop-c-init
loop-c-init c = planes-coded-none _ _ _

pub overflow_mul-at : goal.overflow_mul-at
overflow_mul-at c = omega (arith, inside (goal.at.overflow_mul-at c).In-loop-c)

pub overflow_add-end : goal.overflow_add-end
overflow_add-end c = omega (arith, inside (goal.at.overflow_add-end c).In-loop-c)

pub slice_bounds-encode_plane-end : goal.slice_bounds-encode_plane-end
slice_bounds-encode_plane-end c = omega (arith, inside (goal.at.slice_bounds-encode_plane-end c).In-loop-c)

pub encode_plane-requires : goal.encode_plane-requires
encode_plane-requires c = (c.requires.0.valid, lent_length _ _ _ (inside (goal.at.encode_plane-requires c).In-loop-c), c.requires.1)

pub loop-c-preserved : goal.loop-c-preserved
loop-c-preserved c =
    let back = c.cube-1.given in
    let room = inside (goal.at.loop-c-preserved c).In-loop-c in
    planes-coded-more _ _ _ _ _ c.encode_plane.new.plane room (back.0 ∙ lent_length _ _ _ room) c.loop-c.invariant c.encode_plane.ensures

pub returns : goal.returns
returns c =
    let all : c.loop-c.c ≡ c.args.sh.l3 = omega arith in
    rw all at c.loop-c.invariant
