-- `pack_writer::writing::written_bytes` meets its contract. Assumes nothing.
use native.Mathlib.Omega.{arith}
use Rattle.answer.specs.Values.{and_then, checked, value_of}
use Rattle.answer.proofs.Values.{handed-on, then-refused, value-passed, value-refused}
use Rattle.pack.specs.Packs.{air_size}
use Rattle.pack_writer.specs.Writing.{written_checked}
use Rattle.pack_writer.proofs.Outcomes.{sent-small}
use Rattle.pack_writer.proofs.writing.written_bytes.Goals as goal

pub returns-in_err-n : goal.returns-in_err-n
unfolding written_checked
returns-in_err-n c = handed-on _ _ _ c.from_residual.ensures.1 (then-refused _ _ _ (value-refused _ _ _ c.sent_cells.ensures c.in_err-n.was))

pub size_of-requires : goal.size_of-requires
size_of-requires c =
    let (short, few, high) = sent-small _ _ (value-passed _ _ _ c.sent_cells.ensures c.in_ok-n.was) in
    (omega arith, few, high)

pub returns : goal.returns
unfolding written_checked air_size value_of and_then checked
returns c = rw (value-passed _ _ _ c.sent_cells.ensures c.in_ok-n.was, c.size_of.ensures)
