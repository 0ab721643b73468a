-- `printing::append_shape` meets its contract. Assumes nothing.
use Rattle.printing.specs.Text.{shape_line}
use Rattle.printing.proofs.Appending.{append-append}
use Rattle.printing.proofs.append_shape.Goals as goal

pub returns : goal.returns
unfolding shape_line
returns c = append-append _ _ _ _ _ _ _ _ c.append_triple-lengths.ensures c.append_line.ensures
