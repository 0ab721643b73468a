-- `data::cube_fits` meets its contract. Assumes nothing.
use borrow.Author.Tests.{eq-eqb, ne_eqb}
use Rattle.answer.specs.Refusals.{fault_number}
use Rattle.answer.specs.Values.{and_then, check, checked, refusal, value_of}
use Rattle.answer.proofs.Values.{handed-on, then-refused, value-passed, value-refused}
use Rattle.data.specs.Calls.{cube_sized}
use Rattle.data.proofs.cube_fits.Goals as goal

pub returns-in_err-z : goal.returns-in_err-z
unfolding cube_sized
returns-in_err-z c =
    handed-on _ _ _ c.from_residual.ensures.1 (then-refused _ _ _ (value-refused _ _ _ c.measure.ensures c.in_err-z.was))

pub returns-then-bytes-z : goal.returns-then-bytes-z
unfolding cube_sized value_of and_then check checked
returns-then-bytes-z c = rw (value-passed _ _ _ c.measure.ensures c.in_ok-z.was, eq-eqb _ _ c.if-bytes-z.true)

pub returns-else-bytes-z : goal.returns-else-bytes-z
unfolding cube_sized value_of refusal fault_number and_then check checked
returns-else-bytes-z c = rw (value-passed _ _ _ c.measure.ensures c.in_ok-z.was, ne_eqb _ _ c.if-bytes-z.false)
