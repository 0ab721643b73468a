-- `complete_rows` goes row by row: those below b are codewords, and every row keeps its data cells.
use mathlib.Core.Path.{◌≡◌}
use Prim.Native.Nat.{◌+◌, ◌*◌, ◌-◌, ◌≤◌}
use native.Mathlib.Omega.{arith}
use lib.ListN.{length}
use Rattle.span.proofs.Stretches.{stretch-end}
use Rattle.shape.proofs.Bounds.{Small, small}
use Rattle.cube.proofs.Bytes.{rows-in-plane}
use Rattle.cube.proofs.Completing.{row_run, row_inside, outcome-solved}
use Rattle.cube.proofs.Planes.{rows-completed-none, rows-completed-more}
use Rattle.cube.proofs.encoder.complete_rows.Goals as goal
use Rattle.cube.proofs.encoder.complete_rows.Goals.{In-loop-b, Start}

sizes : (s : Start) → Small s.args.sh
sizes s = small s.args.sh s.requires.0

-- the row lies inside
inside : (c : In-loop-b) →
    c.loop-b.b * (c.args.sh.l1 * c.args.sh.w) + c.args.sh.l1 * c.args.sh.w ≤ length c.loop-b.plane
inside c =
    let sh = c.args.sh in
    omega (arith, stretch-end c.loop-b.b sh.l2 (sh.l1 * sh.w) c.loop-b-test.true, rows-in-plane sh.l1 sh.l2 sh.w)

pub overflow_mul-row : goal.overflow_mul-row
overflow_mul-row c = omega (arith, sizes (goal.at.overflow_mul-row c).Start)

pub erasures_at-e-requires : goal.erasures_at-e-requires
erasures_at-e-requires c = tt

pub loop-b-init : goal.loop-b-init
loop-b-init c = rows-completed-none _ _ _ _

pub overflow_mul-run : goal.overflow_mul-run
overflow_mul-run c = omega (arith, inside (goal.at.overflow_mul-run c).In-loop-b)

pub solve-requires : goal.solve-requires
solve-requires c = tt

pub loop-b-preserved : goal.loop-b-preserved
unfolding row_run
loop-b-preserved c =
    let sh = c.args.sh in
    let v = c.requires.0 in
    let row = row_inside sh.l1 sh.w c.loop-b.b (length c.loop-b.plane) (omega arith) v.l1_high (inside (goal.at.loop-b-preserved c).In-loop-b) in
    rows-completed-more _ sh.l1 sh.w c.loop-b.b _ _ _ c.requires.2 (omega arith) c.loop-b.invariant row
    (outcome-solved _ _ (sh.l1 - 2) (sh.l1 - 1) _ _ _ (rw c.erasures_at-e.ensures at c.solve.ensures) row (omega arith) (omega arith))

pub returns : goal.returns
returns c =
    let all : c.loop-b.b ≡ c.args.sh.l2 = omega arith in
    rw all at c.loop-b.invariant
