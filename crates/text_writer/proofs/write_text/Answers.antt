-- `text_writer::write_text` meets its contract. Assumes nothing.
use native.Mathlib.Omega.{arith}
use mathlib.Core.Path.{refl}
use Rattle.answer.proofs.Values.{value-passed, value-refused, handed-on}
use Rattle.pack.proofs.Sound.{plain-air, air-sound}
use Rattle.text_writer.proofs.TextLines.{text-unread}
use Rattle.text_writer.proofs.write_text.Goals as goal

pub returns-in_err-header : goal.returns-in_err-header
returns-in_err-header c =
    rw (handed-on _ _ _ c.from_residual.ensures.1 refl) (text-unread _ _ _ (value-refused _ _ _ c.read_plain_air.ensures c.in_err-header.was))

pub invariant_of-write : goal.invariant_of-write
invariant_of-write c =
    let plain = value-passed _ _ _ c.read_plain_air.ensures c.in_ok-header.was in
    record { plain = plain; few = omega (arith, (air-sound _ _ _ (plain-air _ _ _ plain)).few (λ k. omega (arith, c.type_inv.air k))) }
