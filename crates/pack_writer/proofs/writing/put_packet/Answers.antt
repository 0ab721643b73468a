-- `pack_writer::writing::put_packet` meets its contract. Assumes nothing.
use mathlib.Core.Path.{◌≡◌}
use Prim.Native.Nat.{◌+◌, ◌-◌, ◌*◌}
use native.Mathlib.Omega.{arith}
use Rattle.pack.proofs.Written.{cell-bytes-le}
use Rattle.pack_writer.proofs.Laying.{third-fits, coordinates-told, packet-laid, part_length}
use Rattle.pack_writer.proofs.writing.put_packet.Goals as goal

pub overflow_cast-c : goal.overflow_cast-c
overflow_cast-c c = omega (arith, third-fits _ _ _ _ _ c.requires.0 c.requires.1 c.requires.4)

pub put_bytes-requires : goal.put_bytes-requires
put_bytes-requires c =
    let l = coordinates-told c.write_coordinates-cell.ensures (omega (arith, c.requires.3)) in
    let w = c.args.sh.w in
    let from = c.args.n * w in
    let wide : from + w - from ≡ w = omega arith in
    let inside = cell-bytes-le _ c.args.cube.now c.args.n c.requires.2 c.requires.1 in
    rw (wide, part_length c.args.cube.now from w (omega (arith, inside))) (omega (arith, l.behind, l.put.kept.size, c.requires.3))

pub returns : goal.returns
returns c =
    let w = c.args.sh.w in
    let from = c.args.n * w in
    let wide : from + w - from ≡ w = omega arith in
    packet-laid _ _ _ _ _ _ c.requires.4 (coordinates-told c.write_coordinates-cell.ensures (omega (arith, c.requires.3)))
    (rw wide at c.put_bytes.ensures)
