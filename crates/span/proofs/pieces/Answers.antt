-- `pieces` copies piece after piece; the last one may reach back into bytes that are copied already.
use mathlib.Core.Path.{◌≡◌, refl}
use Prim.Native.Nat.{ℕ, ◌+◌, ◌-◌, ◌≤◌}
use lib.ListN.{length}
use native.Mathlib.Omega.{arith}
use Rattle.span.specs.Span.{Copied}
use Rattle.span.proofs.Copying.{copied-longer}
use Rattle.span.proofs.pieces.Goals as goal
use Rattle.span.proofs.pieces.Goals.{else-loop-i-test, then-loop-i-test+else-last-i-gt16}

pub loop-i-preserved : goal.loop-i-preserved
loop-i-preserved c =
    let turn = c.loop-i in
    let here : turn.i ≡ 0 + turn.i = omega arith in
    (omega arith, copied-longer turn.i 16 refl turn.invariant.1 (rw here at c.taken.ensures) c.put.ensures (omega arith) (omega arith))

pub returns : goal.returns
returns c =
    let src = c.args.src.now in
    let to = c.args.to in
    let turn = c.loop-i in
    let last = length src - 16 in
    let here : last ≡ 0 + last = omega arith in
    let all : last + 16 ≡ length src = omega arith in
    let rest : (n : ℕ) → last ≤ n → n ≤ length src → Copied src 0 c.args.dst.now to n c.loop-i-test.dst → Copied src 0 c.args.dst.now to (length src) c.put-2.new.dst =
    λ n starts ends before. rw all at (copied-longer last 16 refl before (rw here at c.taken-2.ensures) c.put-2.ensures starts (omega arith)) in
    elim c.loop-i-test.branch [
      | else-loop-i-test w ↦ rest turn.i (omega arith) (omega arith) (rw w.dst-is turn.invariant.1)
      | then-loop-i-test+else-last-i-gt16 w ↦
          let next : turn.i ≡ 0 + turn.i = omega arith in
          rest (turn.i + 16) (omega arith) (omega arith)
          (rw w.dst-is (copied-longer turn.i 16 refl turn.invariant.1 (rw next at w.taken.ensures) w.put.ensures (omega arith) (omega arith)))
    ]
