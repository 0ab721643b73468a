-- `line::encoder::place` copies the data places of every line, one after the other.
use Prim.Native.Nat.{ℕ, ◌+◌, ◌*◌, ◌≤◌, ◌<◌}
use native.Mathlib.Omega.{arith}
use lib.ListN.{length}
use Rattle.line.proofs.Encoding.{between_more}
use Rattle.line.proofs.encoder.place.Goals as goal
use Rattle.line.proofs.encoder.place.Goals.{Start}

-- the bytes of a data place lie inside both lists
from_place :
    (c : Start) (i : ℕ) → i < c.args.from.len →
    c.args.from.first + c.args.from.stride * i + c.args.to.width ≤ length c.args.«data».now
from_place c i h = omega (arith, c.requires.1.inside.fits i h, c.requires.1.lines)

to-place :
    (c : Start) (i : ℕ) → i < c.args.from.len →
    c.args.to.first + c.args.to.stride * i + c.args.to.width ≤ length c.args.s.now
to-place c i h = c.requires.0.fits i (omega (arith, c.requires.1.places))

pub loop-i-preserved : goal.loop-i-preserved
loop-i-preserved c =
    let start = (goal.at.loop-i-preserved c).Start in
    let turn = c.loop-i in
    let here : turn.i < start.args.from.len = omega arith in
    let copied = (c.copy.ensures.done
    (from_place start turn.i here, omega (arith, to-place start turn.i here, turn.invariant.size))).1 in
    between_more turn.invariant _ _ turn.i copied start.requires.0.apart (omega arith) (omega arith)
