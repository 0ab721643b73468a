-- `printing::append_refused` meets its contract. Assumes nothing.
use Rattle.printing.specs.Text.{refused_line}
use Rattle.printing.proofs.append_refused.Goals as goal

pub returns : goal.returns
unfolding refused_line
returns c = c.append_line.ensures
