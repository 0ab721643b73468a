-- `plan_form::numbers::word` meets its contract: std's number of four bytes is the word, and four bytes stay below 2^32.
use native.Mathlib.Omega.{arith}
use Rattle.cursor.specs.Steps.{word}
use Rattle.plan_form.proofs.numbers.word.Goals as goal

pub returns : goal.returns
unfolding word
returns c = (omega arith, omega arith)
