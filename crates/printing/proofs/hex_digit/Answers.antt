-- `printing::hex_digit` meets its contract.
use Rattle.printing.proofs.Numerals.{hex_digit-low, hex_digit-high}
use Rattle.printing.proofs.hex_digit.Goals as goal

pub returns-then-d-lt10 : goal.returns-then-d-lt10
returns-then-d-lt10 c = hex_digit-low _ c.if-d-lt10.true

pub returns-else-d-lt10 : goal.returns-else-d-lt10
returns-else-d-lt10 c = hex_digit-high _ c.if-d-lt10.false
