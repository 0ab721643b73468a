-- `text_writer::Air::line_length` meets its contract. Assumes nothing.
use native.Mathlib.Omega.{arith}
use mathlib.Core.Path.{◌≡◌, ap, ◌∙◌}
use Prim.Native.Nat.{ℕ}
use lib.ListN.{length}
use borrow.Author.Rules.{rules}
use Rattle.answer.specs.Values.{passes}
use Rattle.pack.specs.Reading.{air_of}
use Rattle.pack.proofs.Sound.{plain-air}
use Rattle.printing.specs.Text.{decimal}
use Rattle.text_writer.proofs.TextLines.{no-parts, line-length, line-le}
use Rattle.text_writer.proofs.Air.line_length.Goals as goal

pub returns-in_default : goal.returns-in_default
returns-in_default c =
    let read : air_of c.args.self.now.packets.bytes.now ≡ passes (c.args.self.now.packets.header, c.args.self.now.packets.section) = search (plain-air, rules) in
    absurd (no-parts _ _ _ read _ c.requires _ c.parts.ensures c.in_default.is)

pub returns : goal.returns
returns c =
    let read : air_of c.args.self.now.packets.bytes.now ≡ passes (c.args.self.now.packets.header, c.args.self.now.packets.section) = search (plain-air, rules) in
    let same = line-length _ _ _ read _ c.requires _ c.parts.ensures _ _ _ _ _ _ _ c.in-Some.is
    (c.decimal_length.ensures.0 ∙ ap (λ (n : ℕ). length (decimal n)) c.from.ensures)
    (c.decimal_length-2.ensures.0 ∙ ap (λ (n : ℕ). length (decimal n)) c.from-2.ensures)
    (c.decimal_length-3.ensures.0 ∙ ap (λ (n : ℕ). length (decimal n)) c.from-3.ensures) in
    (same, omega (arith, same, line-le _ _ _ read _ c.requires))
