-- `receive::pieces::append_hole` meets its contract. Assumes nothing.
use Rattle.receive.specs.Printed.{hole_line}
use Rattle.printing.proofs.Appending.{append-append}
use Rattle.receive.proofs.pieces.append_hole.Goals as goal

pub returns : goal.returns
unfolding hole_line
returns c = append-append _ _ _ _ _ _ _ _ c.append_triple-behind.ensures c.append.ensures
