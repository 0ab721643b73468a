-- `plan_form::reading::counted` meets its contract.
use mathlib.Core.Path.{ap}
use Rattle.cursor.specs.declared.Cursor.{Cursor}
use Rattle.cursor.proofs.Steps.{count-known, count-short}
use Rattle.plan_form.proofs.reading.counted.Goals as goal

pub returns-in_default : goal.returns-in_default
returns-in_default c = (count-short _ _ _ c.count.ensures _ c.in_default.is, c.broken.ensures)

pub returns : goal.returns
returns c =
    let (room, same, behind) = count-known _ _ _ c.count.ensures _ _ c.in-Ok.is in
    (room, same, ap (λ (x : Cursor). x.at) behind)
