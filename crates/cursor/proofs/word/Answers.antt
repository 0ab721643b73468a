-- `cursor::word` meets its contract: std's number of four bytes is the word. Assumes nothing.
use native.Mathlib.Omega.{arith}
use Rattle.cursor.specs.Steps.{word}
use Rattle.cursor.proofs.word.Goals as goal

pub returns : goal.returns
unfolding word
returns c = omega arith
