-- `plan_form::numbers::half` meets its contract: std's number of two bytes is the half.
use native.Mathlib.Omega.{arith}
use Rattle.plan_form.specs.Entries.{half}
use Rattle.plan_form.proofs.numbers.half.Goals as goal

pub returns : goal.returns
unfolding half
returns c = (omega arith, omega arith)
