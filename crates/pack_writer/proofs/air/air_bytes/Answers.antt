-- `pack_writer::air::air_bytes` meets its contract. Assumes nothing.
use native.Mathlib.Omega.{arith}
use borrow.Author.Tests.{le-leb, lt-leb}
use Rattle.answer.specs.Refusals.{fault_number}
use Rattle.answer.specs.Values.{refusal, check, checked, and_then, value_of}
use Rattle.answer.proofs.Values.{handed-on, then-refused, value-passed, value-refused}
use Rattle.pack.specs.Packs.{air_size}
use Rattle.pack.specs.Reading.{header_with, header_for}
use Rattle.pack_writer.specs.Writing.{air_size_checked}
use Rattle.pack_writer.proofs.Outcomes.{sizes-small}
use Rattle.pack_writer.proofs.air.air_bytes.Goals as goal

pub returns-in_err-z : goal.returns-in_err-z
unfolding air_size_checked
returns-in_err-z c = handed-on _ _ _ c.from_residual.ensures.1 (then-refused _ _ _ (value-refused _ _ _ c.measure.ensures c.in_err-z.was))

pub returns-then-z-lt4 : goal.returns-then-z-lt4
unfolding air_size_checked value_of refusal fault_number check checked and_then
returns-then-z-lt4 c = rw (value-passed _ _ _ c.measure.ensures c.in_ok-z.was, lt-leb _ _ c.if-z-lt4.true)

pub size_of-requires : goal.size_of-requires
size_of-requires c =
    (omega arith, omega arith, (sizes-small _ _ (value-passed _ _ _ c.measure.ensures c.in_ok-z.was)).1)

pub returns : goal.returns
unfolding air_size_checked air_size header_for header_with value_of check checked and_then
returns c =
    rw (
      value-passed _ _ _ c.measure.ensures c.in_ok-z.was,
      le-leb _ _ c.if-z-lt4.false,
      c.size_of.ensures,
    )
