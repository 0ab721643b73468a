-- `pack_writer::writing::put_shape` meets its contract: W fits two bytes. Assumes nothing.
use mathlib.Core.Path.{◌≡◌}
use Prim.Native.Nat.{◌/◌, ◌%◌}
use native.Mathlib.Nat.{mod-eq_of_lt}
use native.Mathlib.Omega.{arith}
use Rattle.pack.specs.Packs.{shape_bytes}
use Rattle.pack_writer.proofs.writing.put_shape.Goals as goal

pub returns : goal.returns
unfolding shape_bytes
returns c =
    let w = c.args.sh.w in
    let high : w / 256 % 256 ≡ w / 256 = mod-eq_of_lt (omega (arith, c.requires.0.w_high)) in
    rw (c.to_le_bytes.ensures, high) at c.put_bytes.ensures
