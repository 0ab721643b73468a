-- `printing::hex_digits` meets its contract. Assumes nothing.
use Rattle.printing.specs.Text.{hex_byte}
use Rattle.printing.proofs.hex_digits.Goals as goal

pub returns : goal.returns
unfolding hex_byte
returns c = rw (c.hex_digit.ensures, c.hex_digit-2.ensures)
