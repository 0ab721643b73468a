-- `pack_writer::writing::pack_bytes` meets its contract. Assumes nothing.
use native.Mathlib.Omega.{arith}
use Rattle.answer.specs.Values.{and_then, checked, value_of}
use Rattle.answer.proofs.Values.{handed-on, then-refused, value-passed, value-refused}
use Rattle.pack_writer.specs.Writing.{size_checked}
use Rattle.pack_writer.proofs.Outcomes.{sizes-small, size-told}
use Rattle.pack_writer.proofs.writing.pack_bytes.Goals as goal

pub returns-in_err-z : goal.returns-in_err-z
unfolding size_checked
returns-in_err-z c = handed-on _ _ _ c.from_residual.ensures.1 (then-refused _ _ _ (value-refused _ _ _ c.measure.ensures c.in_err-z.was))

pub size_of-requires : goal.size_of-requires
size_of-requires c =
    let (few, high) = sizes-small _ _ (value-passed _ _ _ c.measure.ensures c.in_ok-z.was) in
    (omega arith, few, high)

pub returns : goal.returns
unfolding size_checked value_of and_then checked
returns c =
    let passed = value-passed _ _ _ c.measure.ensures c.in_ok-z.was in
    rw (passed, c.size_of.ensures, size-told _ _ passed)
