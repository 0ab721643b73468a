-- `slices_fit` asks the three lengths in turn.
use Rattle.shape.specs.Shapes.{both}
use borrow.Author.Tests.{eq-eqb, ne_eqb}
use Rattle.receiver.proofs.slices_fit.Goals as goal

pub returns-then-flags-z : goal.returns-then-flags-z
unfolding both
returns-then-flags-z c = rw (eq-eqb _ _ c.if-bytes-z.true, eq-eqb _ _ c.if-flags-z.true)

pub returns-else-flags-z : goal.returns-else-flags-z
unfolding both
returns-else-flags-z c = rw (eq-eqb _ _ c.if-bytes-z.true, ne_eqb _ _ c.if-flags-z.false)

pub returns-else-bytes-z : goal.returns-else-bytes-z
unfolding both
returns-else-bytes-z c = rw (ne_eqb _ _ c.if-bytes-z.false)
