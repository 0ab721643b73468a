-- `text_writer::append_bytes` meets its contract. Assumes nothing.
use mathlib.Core.Path.{◌≡◌}
use Prim.Native.Nat.{◌+◌, ◌*◌}
use native.Mathlib.Omega.{arith}
use lib.ListN.{length}
use Rattle.std.proofs.Math.Seq.{take-length}
use Rattle.text_writer.proofs.TextLines.{bytes-none, bytes-more}
use Rattle.text_writer.proofs.append_bytes.Goals as goal

pub loop-i-init : goal.loop-i-init
loop-i-init c = let start : c.args.at + 3 * 0 ≡ c.args.at = omega arith in rw start (bytes-none _ _ (omega arith))

pub loop-i-preserved : goal.loop-i-preserved
loop-i-preserved c =
    let next : c.args.at + 3 * (c.loop-i.i + 1) ≡ c.args.at + 3 * c.loop-i.i + 3 = omega arith in
    rw next (bytes-more _ c.args.bytes.now _ _ _ c.loop-i.i _ (omega arith) (omega arith) c.hex_digits-digits.ensures c.loop-i.invariant)

pub returns : goal.returns
returns c =
    let all : c.loop-i.i ≡ length c.args.bytes.now = omega arith in
    rw (all, take-length c.args.bytes.now) at c.loop-i.invariant
