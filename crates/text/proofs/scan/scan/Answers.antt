-- `text::scan::scan` meets its contract.
use Rattle.text.proofs.FirstTurn.{none-refused, shape-none}
use Rattle.text.proofs.scan.scan.Goals as goal

pub returns-in_err-sh : goal.returns-in_err-sh
returns-in_err-sh c =
    rw (none-refused _ _ _ _ c.in_err-sh.ensures.value c.from_residual.ensures.1) (shape-none _ c.shape_line.ensures c.in_err-sh.ensures.ok_part)
