-- `text_writer::first_length` meets its contract. Assumes nothing.
use native.Mathlib.Omega.{arith}
use Rattle.text_writer.proofs.TextLines.{first_line-length}
use Rattle.text_writer.proofs.first_length.Goals as goal

pub returns : goal.returns
returns c =
    omega
    (arith, first_line-length c.args.sh, c.decimal_length.ensures.0, c.decimal_length-2.ensures.0, c.decimal_length-3.ensures.0, c.decimal_length-4.ensures.0)
