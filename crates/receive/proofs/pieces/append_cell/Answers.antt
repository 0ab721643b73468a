-- `receive::pieces::append_cell` meets its contract. Assumes nothing.
use borrow.Author.Tests.{eq-eqb, ne_eqb}
use Rattle.receive.specs.Printed.{hole_text}
use Rattle.printing.proofs.Appending.{append-nothing}
use Rattle.receive.proofs.pieces.append_cell.Goals as goal

pub returns-then-flags-m-eq-MISSING : goal.returns-then-flags-m-eq-MISSING
unfolding hole_text
returns-then-flags-m-eq-MISSING c = rw (eq-eqb _ _ c.if-flags-m-eq-MISSING.true) c.append_hole.ensures

pub returns-else-flags-m-eq-MISSING : goal.returns-else-flags-m-eq-MISSING
unfolding hole_text
returns-else-flags-m-eq-MISSING c = rw (ne_eqb _ _ c.if-flags-m-eq-MISSING.false) (append-nothing _ _ c.requires.2)
