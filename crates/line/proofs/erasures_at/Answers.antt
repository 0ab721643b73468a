-- `line::erasures_at` inverts the array of two erasures once for all lines.
use mathlib.Core.Path.{◌∙◌}
use Rattle.line.proofs.Rows.{row-erasures}
use Rattle.line.proofs.erasures_at.Goals as goal

pub returns : goal.returns
returns c = row-erasures _ _ _ _ c.second_row.ensures ∙ rw (c.from-j.ensures, c.from-k.ensures)
