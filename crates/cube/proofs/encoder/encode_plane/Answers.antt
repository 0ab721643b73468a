-- `encode_plane` completes the data columns, then every row.
use Prim.Native.Nat.{◌-◌}
use native.Mathlib.Omega.{arith}
use lib.ListN.{length}
use Rattle.shape.proofs.Bounds.{Small, small}
use Rattle.cube.proofs.Completing.{columns_run, columns-inside, outcome-solved}
use Rattle.cube.proofs.Planes.{plane-code}
use Rattle.cube.proofs.encoder.encode_plane.Goals as goal
use Rattle.cube.proofs.encoder.encode_plane.Goals.{Start}

sizes : (s : Start) → Small s.args.sh
sizes s = small s.args.sh s.requires.0

pub overflow_mul-run : goal.overflow_mul-run
overflow_mul-run c = omega (arith, sizes (goal.at.overflow_mul-run c).Start)

pub overflow_mul-run-2 : goal.overflow_mul-run-2
overflow_mul-run-2 c = omega (arith, sizes (goal.at.overflow_mul-run-2 c).Start)

pub returns : goal.returns
unfolding columns_run
returns c =
    let sh = c.args.sh in
    let v = c.requires.0 in
    let inside = columns-inside sh.l1 sh.l2 sh.w (length c.args.plane.now) (omega arith) v.l2_high (omega arith) in
    plane-code _ c.requires.2 sh v _ _ _ (λ p. omega (arith, c.slice_known-3-1.given p)) inside
    (outcome-solved _ _ (sh.l2 - 2) (sh.l2 - 1) _ _ _ (rw c.erasures_at-e.ensures at c.solve.ensures) inside (omega arith)
    (omega arith))
    c.complete_rows.ensures
