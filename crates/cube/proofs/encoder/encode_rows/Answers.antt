-- `encode_rows` goes row by row: those below b are encoded through all planes, and no other row is written.
use mathlib.Core.Path.{◌≡◌}
use Prim.Native.Nat.{◌*◌, ◌-◌, ◌≤◌}
use native.Mathlib.Omega.{arith}
use lib.ListN.{length}
use Rattle.span.proofs.Stretches.{stretch-end}
use Rattle.shape.specs.Shapes.{cells}
use Rattle.cube.specs.Inner.Encoder.{plane_bytes, part_bytes}
use Rattle.shape.proofs.Bounds.{Small, small}
use Rattle.cube.proofs.Bytes.{rows-in-plane}
use Rattle.cube.proofs.Completing.{across_run}
use Rattle.cube.proofs.Encoding.{rows_from, rows_to, rows-to-inside, rows-fed, rows-encoded-none, rows-encoded-more}
use Rattle.cube.proofs.encoder.encode_rows.Goals as goal
use Rattle.cube.proofs.encoder.encode_rows.Goals.{In-loop-b, Start}

sizes : (s : Start) → Small s.args.sh
sizes s = small s.args.sh s.requires.0.valid

-- the row begins inside its plane, and its data inside the plane's data
begins : (c : In-loop-b) →
    (c.loop-b.b * ((c.args.sh.l1 - 2) * c.args.sh.w) ≤ part_bytes c.args.sh)
    × (c.loop-b.b * (c.args.sh.l1 * c.args.sh.w) ≤ plane_bytes c.args.sh)
begins c =
    let sh = c.args.sh in
    let part = stretch-end c.loop-b.b (sh.l2 - 2) ((sh.l1 - 2) * sh.w) c.loop-b-test.true in
    let plane = stretch-end c.loop-b.b sh.l2 (sh.l1 * sh.w) (omega arith) in
    (omega (arith, rows-in-plane (sh.l1 - 2) (sh.l2 - 2) sh.w), omega (arith, rows-in-plane sh.l1 sh.l2 sh.w))

pub overflow_mul-row : goal.overflow_mul-row
overflow_mul-row c = omega (arith, sizes (goal.at.overflow_mul-row c).Start)

pub overflow_mul-width : goal.overflow_mul-width
overflow_mul-width c = omega (arith, sizes (goal.at.overflow_mul-width c).Start)

pub loop-b-init : goal.loop-b-init
loop-b-init c = rows-encoded-none _ _ _ _

pub overflow_mul-from : goal.overflow_mul-from
overflow_mul-from c = omega (arith, begins (goal.at.overflow_mul-from c).In-loop-b, sizes (goal.at.overflow_mul-from c).Start)

pub overflow_mul-from-in-loop-b : goal.overflow_mul-from-in-loop-b
overflow_mul-from-in-loop-b c =
    let sh = c.args.sh in
    omega (arith, rows-in-plane (sh.l1 - 2) (sh.l2 - 2) sh.w, sizes (goal.at.overflow_mul-from-in-loop-b c).Start)

pub overflow_mul-to : goal.overflow_mul-to
overflow_mul-to c = omega (arith, begins (goal.at.overflow_mul-to c).In-loop-b, sizes (goal.at.overflow_mul-to c).Start)

pub overflow_mul-to-in-loop-b : goal.overflow_mul-to-in-loop-b
overflow_mul-to-in-loop-b c =
    let sh = c.args.sh in
    omega (arith, rows-in-plane sh.l1 sh.l2 sh.w, sizes (goal.at.overflow_mul-to-in-loop-b c).Start)

pub encode-requires : goal.encode-requires
encode-requires c = tt

pub loop-b-preserved : goal.loop-b-preserved
unfolding rows_from rows_to across_run
loop-b-preserved c =
    let sh = c.args.sh in
    let v = c.requires.0.valid in
    let less = c.loop-b-test.true in
    let size : length c.loop-b.cube ≡ sh.w * cells sh = omega arith in
    let outcome = c.encode.ensures in
    let fed = rw (← c.requires.1) at (rows-fed sh c.loop-b.b v less) in
    let inside = rw (← size) at (rows-to-inside sh c.loop-b.b v less) in
    rows-encoded-more _ sh c.loop-b.b _ _ _ less c.requires.2 inside.few_places fed (outcome.done (inside, fed)).1 c.loop-b.invariant

pub returns : goal.returns
returns c =
    let all : c.loop-b.b ≡ c.args.sh.l2 - 2 = omega arith in
    rw all at c.loop-b.invariant
