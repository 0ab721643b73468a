-- `pack::reading::in_use` meets its contract. Assumes nothing.
use borrow.Author.Tests.{le-leb, lt-leb}
use Rattle.shape.specs.Shapes.{within, both}
use Rattle.pack.proofs.reading.in_use.Goals as goal

pub returns-then-used-ge1 : goal.returns-then-used-ge1
unfolding within both
returns-then-used-ge1 c = rw (le-leb 1 c.args.used c.if-used-ge1.true)

pub returns-else-used-ge1 : goal.returns-else-used-ge1
unfolding within both
returns-else-used-ge1 c = rw (lt-leb 1 c.args.used c.if-used-ge1.false)
