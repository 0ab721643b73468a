-- `text_writer::Air::write` meets its contract. Assumes nothing.
use mathlib.Core.Path.{refl}
use native.Mathlib.Omega.{arith}
use lib.ListN.{length}
use Rattle.answer.specs.Refusals.{fault_number, packet_fault_number}
use Rattle.answer.specs.Values.{refusal, value_of}
use Rattle.pack.proofs.Naming.{outside-some, outside-none}
use Rattle.text.specs.Text.{write_refused, write_outside, write_done}
use Rattle.text.proofs.Fitting.{text-short, text-fits}
use Rattle.text_writer.proofs.Air.write.Goals as goal

pub returns-then-text-text_length : goal.returns-then-text-text_length
unfolding value_of refusal fault_number
returns-then-text-text_length c =
    write_refused 4
    (text-short _ _ _ c.args.self.now.plain (length c.args.text.now) (λ e. omega (arith, c.if-text-text_length.true, c.text_length.ensures))) refl

pub returns-in-Some : goal.returns-in-Some
unfolding value_of refusal packet_fault_number
returns-in-Some c =
    let fits = text-fits _ _ _ c.args.self.now.plain (length c.args.text.now) (omega (arith, c.if-text-text_length.false, c.text_length.ensures)) in
    let (first, less) = outside-some _ _ _ _ _ c.first_outside.ensures c.in-Some.is in
    write_outside _ _ _ fits first less refl

pub returns : goal.returns
unfolding value_of
returns c =
    let fits = text-fits _ _ _ c.args.self.now.plain (length c.args.text.now) (omega (arith, c.if-text-text_length.false, c.text_length.ensures)) in
    write_done _ _ fits (outside-none _ _ _ _ c.first_outside.ensures c.in_default.is) c.put.ensures
