-- `line::encoder::encode_strips` encodes strip after strip; the last one may reach back into lines that are done.
use Prim.Native.Nat.{◌-◌, ◌<◌}
use Rattle.line.specs.Run.{Encoded}
use Rattle.line.specs.Inner.Block.{front}
use Rattle.line.proofs.encoder.encode_strips.Given as goal

abbrev pub invariant-loop-done : goal.invariant-loop-done
invariant-loop-done l =
    (l.done < l.to.width) × Encoded l.reduction (front l.from l.done) (front l.to l.done) l.data l.initial.s l.s

abbrev pub decreases-loop-done : goal.decreases-loop-done
decreases-loop-done l = l.last - l.done
