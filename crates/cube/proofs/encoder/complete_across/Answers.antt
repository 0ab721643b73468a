-- `complete_across` goes row by row: the lines of axis 3 through those below b are codewords, and every row of a data plane keeps its data cells.
use mathlib.Core.Path.{◌≡◌}
use Prim.Native.Nat.{◌*◌, ◌-◌, ◌≤◌}
use native.Mathlib.Omega.{arith}
use lib.ListN.{length}
use Rattle.span.proofs.Stretches.{stretch-end}
use Rattle.shape.specs.Shapes.{cells}
use Rattle.cube.specs.Inner.Encoder.{plane_bytes}
use Rattle.shape.proofs.Bounds.{Small, small}
use Rattle.cube.proofs.Bytes.{rows-in-plane}
use Rattle.cube.proofs.Completing.{across_run, outcome-solved}
use Rattle.cube.proofs.Encoding.{rows_to, rows-to-inside, across-completed-none, across-completed-more}
use Rattle.cube.proofs.encoder.complete_across.Goals as goal
use Rattle.cube.proofs.encoder.complete_across.Goals.{In-loop-b, Start}

sizes : (s : Start) → Small s.args.sh
sizes s = small s.args.sh s.requires.0.valid

-- the row begins inside its plane
begins : (c : In-loop-b) →
    c.loop-b.b * (c.args.sh.l1 * c.args.sh.w) ≤ plane_bytes c.args.sh
begins c =
    let sh = c.args.sh in
    omega (arith, stretch-end c.loop-b.b sh.l2 (sh.l1 * sh.w) (omega arith), rows-in-plane sh.l1 sh.l2 sh.w)

pub overflow_mul-row : goal.overflow_mul-row
overflow_mul-row c = omega (arith, sizes (goal.at.overflow_mul-row c).Start)

pub overflow_mul-width : goal.overflow_mul-width
overflow_mul-width c = omega (arith, sizes (goal.at.overflow_mul-width c).Start)

pub erasures_at-e-requires : goal.erasures_at-e-requires
erasures_at-e-requires c = tt

pub loop-b-init : goal.loop-b-init
loop-b-init c = across-completed-none _ _ _

pub overflow_mul-run : goal.overflow_mul-run
overflow_mul-run c = omega (arith, begins (goal.at.overflow_mul-run c).In-loop-b, sizes (goal.at.overflow_mul-run c).Start)

pub overflow_mul-run-in-loop-b : goal.overflow_mul-run-in-loop-b
overflow_mul-run-in-loop-b c =
    let sh = c.args.sh in
    omega (arith, rows-in-plane sh.l1 sh.l2 sh.w, sizes (goal.at.overflow_mul-run-in-loop-b c).Start)

pub solve-requires : goal.solve-requires
solve-requires c = tt

pub loop-b-preserved : goal.loop-b-preserved
unfolding rows_to across_run
loop-b-preserved c =
    let sh = c.args.sh in
    let v = c.requires.0.valid in
    let less = c.loop-b-test.true in
    let size : length c.loop-b.cube ≡ sh.w * cells sh = omega arith in
    let inside = rw (← size) at (rows-to-inside sh c.loop-b.b v less) in
    across-completed-more _ sh c.loop-b.b _ _ _ c.requires.1 less (omega arith) c.loop-b.invariant inside
    (outcome-solved _ _ (sh.l3 - 2) (sh.l3 - 1) _ _ _ (rw c.erasures_at-e.ensures at c.solve.ensures) inside (omega arith) (omega arith))

pub returns : goal.returns
returns c =
    let all : c.loop-b.b ≡ c.args.sh.l2 - 2 = omega arith in
    rw all at c.loop-b.invariant
