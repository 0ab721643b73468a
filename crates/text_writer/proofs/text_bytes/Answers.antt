-- `text_writer::text_bytes` meets its contract. Assumes nothing.
use native.Mathlib.Omega.{arith}
use Rattle.answer.specs.Values.{and_then, checked, value_of}
use Rattle.answer.proofs.Values.{then-refused, value-passed, value-refused, handed-on}
use Rattle.pack.proofs.Sound.{plain-air, air-sound}
use Rattle.text.specs.Text.{text_size_checked}
use Rattle.text_writer.proofs.text_bytes.Goals as goal

pub returns-in_err-header : goal.returns-in_err-header
unfolding text_size_checked
returns-in_err-header c =
    handed-on _ _ _ c.from_residual.ensures.1 (then-refused _ _ _ (value-refused _ _ _ c.read_plain_air.ensures c.in_err-header.was))

pub invariant_of-text_length : goal.invariant_of-text_length
invariant_of-text_length c =
    let plain = value-passed _ _ _ c.read_plain_air.ensures c.in_ok-header.was in
    record { plain = plain; few = omega (arith, (air-sound _ _ _ (plain-air _ _ _ plain)).few (λ k. omega (arith, c.type_inv.air k))) }

pub returns : goal.returns
unfolding text_size_checked value_of and_then checked
returns c = rw (value-passed _ _ _ c.read_plain_air.ensures c.in_ok-header.was, c.text_length.ensures)
