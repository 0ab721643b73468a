-- `pack::packets::named` meets its contract. Assumes nothing.
use mathlib.Core.Path.{sym}
use borrow.Author.Tests.{lt-ltb, le-ltb}
use Rattle.shape.specs.Shapes.{both, cell}
use Rattle.pack.specs.Inner.Packets.{named_by}
use Rattle.pack.proofs.packets.named.Goals as goal
use Rattle.pack.proofs.packets.named.Goals.{else-a-sh-via-then-a-sh+then-b-sh+else-c-sh, else-a-sh-via-then-a-sh+else-b-sh, else-a-sh-via-else-a-sh}

pub returns-then-c-sh : goal.returns-then-c-sh
unfolding named_by both cell
returns-then-c-sh c =
    rw (sym c.from-a.ensures, sym c.from-b.ensures, sym c.from-c.ensures, lt-ltb _ _ c.if-a-sh.true, lt-ltb _ _ c.if-b-sh.true, lt-ltb _ _ c.if-c-sh.true)

pub returns-else-a-sh : goal.returns-else-a-sh
unfolding named_by both
returns-else-a-sh c =
    rw (sym c.from-a.ensures, sym c.from-b.ensures, sym c.from-c.ensures)
    (elim c.else-a-sh.branch [
      | else-a-sh-via-then-a-sh+then-b-sh+else-c-sh w ↦ rw (lt-ltb _ _ w.if-a-sh.true, lt-ltb _ _ w.if-b-sh.true, le-ltb _ _ w.if-c-sh.false)
      | else-a-sh-via-then-a-sh+else-b-sh w ↦ rw (lt-ltb _ _ w.if-a-sh.true, le-ltb _ _ w.if-b-sh.false)
      | else-a-sh-via-else-a-sh w ↦ rw (le-ltb _ _ w.if-a-sh.false)
    ])
