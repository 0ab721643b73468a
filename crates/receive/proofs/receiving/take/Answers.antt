-- `receive::receiving::take` meets its contract: the parts that are lent have the exact lengths. Assumes nothing.
use mathlib.Core.Path.{sym}
use Prim.Native.Nat.{◌-◌, ◌≤◌}
use native.Mathlib.Omega.{arith}
use lib.Seq.{length-take-le}
use Rattle.receive.proofs.Endings.{large-input, lent_fits, received-input}
use Rattle.receive.proofs.receiving.take.Goals as goal
use Rattle.receive.proofs.receiving.take.Goals.{Else-bytes-gt-LIMIT}

fits : (c : Else-bytes-gt-LIMIT)
    → let z = c.args.h.sizes in
    (z.cells ≤ 65536) × (4 ≤ z.capacity) × (z.capacity - 4 ≤ 65536)
fits c = let p = c.requires in lent_fits _ _ _ p.3 p.4.1 (omega arith)

pub returns-then-bytes-gt-LIMIT : goal.returns-then-bytes-gt-LIMIT
returns-then-bytes-gt-LIMIT c = let p = c.requires in large-input _ _ _ p.3 p.4.1 _ _ (omega arith)

pub overflow_sub-room : goal.overflow_sub-room
overflow_sub-room c = (fits (goal.at.overflow_sub-room c).Else-bytes-gt-LIMIT).1

pub slice_bounds-receive_pack-end-3 : goal.slice_bounds-receive_pack-end-3
slice_bounds-receive_pack-end-3 c = omega (arith, (fits (goal.at.slice_bounds-receive_pack-end-3 c).Else-bytes-gt-LIMIT).0, c.requires.1)

pub slice_bounds-receive_pack-end-4 : goal.slice_bounds-receive_pack-end-4
slice_bounds-receive_pack-end-4 c =
    sym (length-take-le _ _ (omega (arith, (fits (goal.at.slice_bounds-receive_pack-end-4 c).Else-bytes-gt-LIMIT).0, c.requires.1)))

pub slice_bounds-receive_pack-end-5 : goal.slice_bounds-receive_pack-end-5
slice_bounds-receive_pack-end-5 c = omega (arith, (fits (goal.at.slice_bounds-receive_pack-end-5 c).Else-bytes-gt-LIMIT).2, c.requires.2)

pub slice_bounds-receive_pack-end-6 : goal.slice_bounds-receive_pack-end-6
slice_bounds-receive_pack-end-6 c =
    sym (length-take-le _ _ (omega (arith, (fits (goal.at.slice_bounds-receive_pack-end-6 c).Else-bytes-gt-LIMIT).2, c.requires.2)))

pub returns : goal.returns
returns c =
    let p = c.requires in
    received-input _ _ _ p.3 p.4.1 _ _ _ _ _ _ _ _ _ p.0 p.1 p.2 (omega arith) c.receive_pack-received.auto.flags
    c.receive_pack-received.auto.buffer c.receive_pack-received.ensures c.outcome_of.ensures
