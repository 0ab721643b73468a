-- `printing::append_decimal` meets its contract. Assumes nothing.
use mathlib.Core.Path.{◌∙◌}
use native.Mathlib.Omega.{arith}
use Rattle.printing.proofs.Numerals.{digits_decimal}
use Rattle.printing.proofs.append_decimal.Goals as goal

pub returns : goal.returns
returns c =
    let d = c.decimal-k in
    rw (d.ensures.digits ∙ digits_decimal d.result c.args.n (omega arith) d.ensures.len) at c.append.ensures
