-- `printing::append_triple` meets its contract. Assumes nothing.
use Rattle.printing.specs.Text.{triple}
use Rattle.printing.proofs.Appending.{append-append}
use Rattle.printing.proofs.append_triple.Goals as goal

pub returns : goal.returns
unfolding triple
returns c =
    append-append _ _ _ _ _ _ _ _ c.append_numbered-first.ensures
    (append-append _ _ _ _ _ _ _ _ c.append_numbered-second.ensures c.append_numbered.ensures)
