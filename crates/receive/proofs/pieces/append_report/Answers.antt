-- `receive::pieces::append_report` meets its contract. Assumes nothing.
use Rattle.printing.proofs.Appending.{append-append}
use Rattle.receive.proofs.Endings.{file-opening, left-opening}
use Rattle.receive.proofs.pieces.append_report.Goals as goal

pub returns-in-File : goal.returns-in-File
returns-in-File c = rw (file-opening c.args.report _ c.in-File.is) (append-append _ _ _ _ _ _ _ _ c.append_head-behind.ensures c.append_line.ensures)

pub returns-in-Left : goal.returns-in-Left
returns-in-Left c = rw (left-opening c.args.report _ c.in-Left.is) c.append_head-behind.ensures
