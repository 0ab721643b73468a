-- `pack::reading::read_plain_air` meets its contract. Assumes nothing.
use borrow.Author.Tests.{eq-eqb, ne_eqb}
use Rattle.answer.specs.Refusals.{fault_number}
use Rattle.answer.specs.Values.{refusal, check, checked, value_of}
use Rattle.answer.proofs.Values.{handed-on}
use Rattle.cursor.proofs.Steps.{count-read, count-refused}
use Rattle.pack.specs.Reading.{plain_air_of}
use Rattle.pack.proofs.reading.read_plain_air.Goals as goal

pub returns-in_err-n : goal.returns-in_err-n
unfolding plain_air_of
returns-in_err-n c = handed-on _ _ _ c.from_residual.ensures.1 (count-refused _ _ _ c.count.ensures _ c.in_err-n.was _)

pub returns-then-n-ne5 : goal.returns-then-n-ne5
unfolding plain_air_of value_of refusal fault_number check checked
returns-then-n-ne5 c = rw (count-read _ _ _ c.count.ensures _ _ c.in_ok-n.was, ne_eqb _ _ c.if-n-ne5.true)

pub returns : goal.returns
unfolding plain_air_of check
returns c = rw (count-read _ _ _ c.count.ensures _ _ c.in_ok-n.was, eq-eqb _ _ c.if-n-ne5.false) c.read_air.ensures
