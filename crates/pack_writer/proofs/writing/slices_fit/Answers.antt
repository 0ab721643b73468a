-- `pack_writer::writing::slices_fit` meets its contract. Assumes nothing.
use mathlib.Core.Path.{sym}
use borrow.Author.Tests.{eq-eqb, ne_eqb}
use Rattle.answer.specs.Refusals.{fault_number}
use Rattle.answer.specs.Values.{refusal, and_then, check, checked, value_of}
use Rattle.answer.proofs.Values.{handed-on, then-refused, value-passed, value-refused}
use Rattle.shape.specs.Shapes.{both}
use Rattle.pack_writer.specs.Writing.{air_checked}
use Rattle.pack_writer.proofs.Outcomes.{shape-not-refused, shape-bytes}
use Rattle.pack_writer.proofs.writing.slices_fit.Goals as goal
use Rattle.pack_writer.proofs.writing.slices_fit.Goals.{then-bytes-z-via-then-bytes-z, then-bytes-z-via-else-bytes-z+then-output-size}

pub returns-in_err-size : goal.returns-in_err-size
unfolding air_checked
returns-in_err-size c = handed-on _ _ _ c.from_residual.ensures.1 (then-refused _ _ _ (value-refused _ _ _ c.written_bytes.ensures c.in_err-size.was))

pub returns-in_err-z : goal.returns-in_err-z
returns-in_err-z c =
    absurd (shape-not-refused _ _ (value-passed _ _ _ c.written_bytes.ensures c.in_ok-size.was) _ c.measure.ensures _ c.in_err-z.was)

pub returns-then-bytes-z : goal.returns-then-bytes-z
unfolding air_checked value_of refusal fault_number and_then check checked both
returns-then-bytes-z c =
    let passed = value-passed _ _ _ c.written_bytes.ensures c.in_ok-size.was in
    let bytes = sym (shape-bytes _ _ (value-passed _ _ _ c.measure.ensures c.in_ok-z.was)) in
    elim c.then-bytes-z.branch [
      | then-bytes-z-via-then-bytes-z w ↦ rw (passed, bytes, ne_eqb _ _ w.if-bytes-z.true)
      | then-bytes-z-via-else-bytes-z+then-output-size w ↦ rw (passed, bytes, eq-eqb _ _ w.if-bytes-z.false, ne_eqb _ _ w.if-output-size.true)
    ]

pub returns : goal.returns
unfolding air_checked value_of and_then check checked both
returns c =
    rw (
      value-passed _ _ _ c.written_bytes.ensures c.in_ok-size.was,
      sym (shape-bytes _ _ (value-passed _ _ _ c.measure.ensures c.in_ok-z.was)),
      eq-eqb _ _ c.if-bytes-z.false,
      eq-eqb _ _ c.if-output-size.false,
    )
