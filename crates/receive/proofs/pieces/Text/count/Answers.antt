-- `receive::pieces::Text::count` meets its contract. Assumes nothing.
use native.Mathlib.Omega.{arith}
use Rattle.receive.specs.Pieces.{pieces}
use Rattle.receive.proofs.pieces.Text.count.Goals as goal

pub returns : goal.returns
unfolding pieces
returns c = omega (arith, c.div_ceil.ensures, c.texts.ensures)
