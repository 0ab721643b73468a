-- `pack_writer::air::write_coordinates` meets its contract. Assumes nothing.
use mathlib.Core.Path.{refl}
use Prim.Native.Nat.{◌+◌, ◌≤◌}
use native.Mathlib.Omega.{arith}
use lib.ListN.{length, length-set}
use Rattle.cursor.proofs.Steps.{bytes-known, bytes-short}
use Rattle.pack_writer.specs.Writing.{coordinates_outside}
use Rattle.pack_writer.proofs.Starting.{coordinates-laid}
use Rattle.pack_writer.proofs.air.write_coordinates.Goals as goal
use Rattle.pack_writer.proofs.air.write_coordinates.Goals.{In-Ok}

-- the three bytes at the cursor lie in the slice
room : (c : In-Ok) → c.in-Ok.i + 3 ≤ length c.args.out.now
room c = let (inside, at, _) = bytes-known _ _ _ _ c.bytes.ensures _ _ c.in-Ok.is in omega (arith, inside, at)

pub returns-in_default : goal.returns-in_default
returns-in_default c = coordinates_outside (bytes-short _ _ _ _ c.bytes.ensures _ c.in_default.is) refl refl

pub bounds-out-i : goal.bounds-out-i
bounds-out-i c = omega (arith, room (goal.at.bounds-out-i c).In-Ok)

pub overflow_add-out : goal.overflow_add-out
overflow_add-out c = omega (arith, room (goal.at.overflow_add-out c).In-Ok)

pub bounds-out-i-2 : goal.bounds-out-i-2
bounds-out-i-2 c = simp length-set (omega (arith, room (goal.at.bounds-out-i-2 c).In-Ok))

pub overflow_add-out-2 : goal.overflow_add-out-2
overflow_add-out-2 c = omega (arith, room (goal.at.overflow_add-out-2 c).In-Ok)

pub bounds-out-i-3 : goal.bounds-out-i-3
bounds-out-i-3 c = simp length-set (omega (arith, room (goal.at.bounds-out-i-3 c).In-Ok))

pub returns : goal.returns
returns c =
    let (inside, at, next) = bytes-known _ _ _ _ c.bytes.ensures _ _ c.in-Ok.is in
    rw (at, next) (coordinates-laid _ _ _ _ _ inside)
