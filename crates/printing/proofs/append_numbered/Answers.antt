-- `printing::append_numbered` meets its contract. Assumes nothing.
use Rattle.printing.specs.Text.{numbered}
use Rattle.printing.proofs.Appending.{append-append}
use Rattle.printing.proofs.append_numbered.Goals as goal

pub returns : goal.returns
unfolding numbered
returns c = append-append _ _ _ _ _ _ _ _ c.append-behind.ensures c.append_decimal.ensures
