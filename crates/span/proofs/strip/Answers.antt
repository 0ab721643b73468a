-- `strip` copies four pieces, to the slice and to the array that it answers.
use native.Mathlib.Omega.{arith}
use mathlib.Core.Path.{refl}
use Rattle.span.proofs.Copying.{copied-longer}
use Rattle.span.proofs.strip.Goals as goal

pub loop-i-preserved : goal.loop-i-preserved
loop-i-preserved c =
    let turn = c.loop-i in
    let piece = c.taken-p.ensures in (
      omega arith,
      omega arith,
      copied-longer turn.i 16 refl turn.invariant.2 piece c.put.ensures (omega arith) (omega arith),
      copied-longer turn.i 16 (omega arith) turn.invariant.3 piece c.put-in-loop-i.ensures (omega arith) (omega arith),
    )
