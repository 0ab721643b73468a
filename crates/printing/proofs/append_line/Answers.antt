-- `printing::append_line` meets its contract. Assumes nothing.
use Rattle.printing.specs.Text.{number_line}
use Rattle.printing.proofs.Appending.{append-append}
use Rattle.printing.proofs.append_line.Goals as goal

pub returns : goal.returns
unfolding number_line
returns c = append-append _ _ _ _ _ _ _ _ c.append_numbered-behind.ensures c.append.ensures
