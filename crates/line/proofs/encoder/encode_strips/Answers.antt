-- `line::encoder::encode_strips` encodes strip after strip; the last one may reach back into lines that are done.
use Prim.Native.Nat.{ℕ, ◌+◌, ◌-◌, ◌≤◌}
use native.Mathlib.Omega.{arith}
use Rattle.line.specs.Run.{Encoded}
use Rattle.line.specs.Inner.Block.{front}
use Rattle.line.proofs.Encoding.{encoded-none, encoded-strip, encoded-all}
use Rattle.line.proofs.encoder.encode_strips.Goals as goal
use Rattle.line.proofs.encoder.encode_strips.Goals.{Start, After-encode_strip-2, else-loop-done-test, then-loop-done-test+else-last-done-gt64}

pub loop-done-init : goal.loop-done-init
loop-done-init c = (omega arith, encoded-none _ _ _ _ _)

pub loop-done-preserved : goal.loop-done-preserved
loop-done-preserved c =
    let start = (goal.at.loop-done-preserved c).Start in
    let turn = c.loop-done in (
      omega arith,
      encoded-strip start.args.from start.args.to turn.done turn.done 64 turn.invariant.1 c.encode_strip.ensures (omega arith) (omega arith) (omega (arith, start.requires.0.apart)),
    )

-- the last strip, behind those that are done
rest :
    (c : After-encode_strip-2) (done : ℕ) → c.args.to.width - 64 ≤ done → done ≤ c.args.to.width →
    Encoded c.args.reduction (front c.args.from done) (front c.args.to done) c.args.«data».now c.args.s.now c.loop-done-test.s →
    Encoded c.args.reduction c.args.from c.args.to c.args.«data».now c.args.s.now c.encode_strip-2.new.s
rest c done reaches covers before =
    encoded-all
    (encoded-strip c.args.from c.args.to done (c.args.to.width - 64) 64 before c.encode_strip-2.ensures reaches (omega arith) (omega (arith, c.requires.0.apart)))
    (omega arith)

pub returns : goal.returns
returns c =
    let start = (goal.at.returns c).Start in
    let after = (goal.at.returns c).After-encode_strip-2 in
    let turn = c.loop-done in
    elim c.loop-done-test.branch [
      | else-loop-done-test w ↦ rest after turn.done (omega arith) (omega arith) (rw w.s-is turn.invariant.1)
      | then-loop-done-test+else-last-done-gt64 w ↦
          rest after (turn.done + 64) (omega arith) (omega arith)
          (rw w.s-is (encoded-strip start.args.from start.args.to turn.done turn.done 64 turn.invariant.1 w.encode_strip.ensures (omega arith) (omega arith) (omega (arith, start.requires.0.apart))))
    ]
