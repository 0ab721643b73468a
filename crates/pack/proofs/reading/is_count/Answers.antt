-- `pack::reading::is_count` meets its contract. Assumes nothing.
use borrow.Author.Tests.{eq-eqb, ne_eqb}
use Rattle.pack.specs.Reading.{is_count}
use Rattle.pack.proofs.reading.is_count.Goals as goal

pub returns-then-n-eq5 : goal.returns-then-n-eq5
unfolding is_count
returns-then-n-eq5 c = rw (eq-eqb _ _ c.if-n-eq5.true)

pub returns-else-n-eq5 : goal.returns-else-n-eq5
unfolding is_count
returns-else-n-eq5 c = rw (ne_eqb _ _ c.if-n-eq5.false)
