-- `pack_writer::writing::put_bytes` meets its contract. Assumes nothing.
use native.Mathlib.Omega.{arith}
use Rattle.std.proofs.Math.Seq.{take-length}
use Rattle.span.proofs.Putting.{copied-put}
use Rattle.pack_writer.proofs.writing.put_bytes.Goals as goal

pub returns : goal.returns
returns c =
    record {
      put = rw (take-length c.args.bytes.now) at (copied-put (omega arith) (c.copy.ensures.done (omega arith, c.requires)).1);
      behind = omega arith;
    }
