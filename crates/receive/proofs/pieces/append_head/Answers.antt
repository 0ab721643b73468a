-- `receive::pieces::append_head` meets its contract: four lines, one behind the other. Assumes nothing.
use Rattle.receive.specs.Printed.{head_lines}
use Rattle.printing.proofs.Appending.{append-append}
use Rattle.receive.proofs.pieces.append_head.Goals as goal

pub returns : goal.returns
unfolding head_lines
returns c =
    append-append _ _ _ _ _ _ _ _ c.append_shape-shape.ensures
    (append-append _ _ _ _ _ _ _ _ c.append_line-packets.ensures
    (append-append _ _ _ _ _ _ _ _ c.append_line-repeats.ensures (rw c.cells_left.ensures at c.append_line.ensures)))
