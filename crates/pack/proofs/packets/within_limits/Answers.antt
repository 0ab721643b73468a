-- `pack::packets::within_limits` meets its contract. Assumes nothing.
use mathlib.Core.Logic.{inl, inr}
use native.Mathlib.Omega.{arith}
use borrow.Author.Tests.{le-leb, lt-leb}
use Rattle.shape.specs.Shapes.{both}
use Rattle.pack.specs.Inner.Packets.{within_limits}
use Rattle.pack.proofs.packets.within_limits.Goals as goal
use Rattle.pack.proofs.packets.within_limits.Goals.{then-sh-le255, else-sh-le255}

pub returns-then-sh-le255-2 : goal.returns-then-sh-le255-2
unfolding within_limits both
returns-then-sh-le255-2 c = rw (le-leb _ _ c.if-sh-le255-2.true.0, le-leb _ _ c.if-sh-le255-2.true.1)

pub returns-else-sh-le255-2 : goal.returns-else-sh-le255-2
unfolding within_limits both
returns-else-sh-le255-2 c =
    elim c.if-sh-le255.branch [
      | then-sh-le255 w ↦ elim c.if-sh-le255-2.either [
        | inl long ↦ rw (w.t-3-is, le-leb _ _ long.0, lt-leb _ _ long.1)
        | inr long ↦ absurd (omega (arith, w.if-sh-le255.true))
      ]
      | else-sh-le255 w ↦ rw (w.t-3-is, lt-leb _ _ w.if-sh-le255.false)
    ]
