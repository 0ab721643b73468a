-- `pack::reading::read_header` meets its contract: 7 is judged before the bytes of section 1 are needed. Assumes nothing.
use mathlib.Core.Path.{sym, ◌∙◌}
use native.Mathlib.Omega.{arith}
use Rattle.answer.specs.Refusals.{fault_number}
use Rattle.answer.specs.Values.{refusal, check, checked, value_of}
use Rattle.answer.proofs.Values.{handed-on}
use Rattle.pack.specs.Reading.{header_of}
use Rattle.cursor.proofs.Steps.{count-read, count-refused, bytes_read, bytes-refused, bytes-known}
use Rattle.pack.proofs.Sound.{count-least}
use Rattle.pack.proofs.reading.read_header.Goals as goal

pub returns-in_err-n : goal.returns-in_err-n
unfolding header_of
returns-in_err-n c = handed-on _ _ _ c.from_residual.ensures.1 (count-refused _ _ _ c.count.ensures _ c.in_err-n.was _)

pub returns-then-not-is_count : goal.returns-then-not-is_count
unfolding header_of value_of refusal fault_number check checked
returns-then-not-is_count c =
    rw (
      count-read _ _ _ c.count.ensures _ _ c.in_ok-n.was,
      sym c.is_count.ensures ∙ c.if-not-is_count.true,
    )

pub returns-in_err-at : goal.returns-in_err-at
unfolding header_of check
returns-in_err-at c =
    handed-on _ _ _ c.from_residual-in_err-at.ensures.1
    (rw (count-read _ _ _ c.count.ensures _ _ c.in_ok-n.was, sym c.is_count.ensures ∙ c.if-not-is_count.false)
    (bytes-refused _ _ _ _ c.bytes.ensures _ c.in_err-at.was _))

pub shape_at-requires : goal.shape_at-requires
shape_at-requires c =
    let (inside, at, _) = bytes-known _ _ _ _ c.bytes.ensures _ _ c.in_ok-at.was in
    omega (arith, count-least _ (sym c.is_count.ensures ∙ c.if-not-is_count.false))

pub given_at-requires : goal.given_at-requires
given_at-requires c =
    let (inside, at, _) = bytes-known _ _ _ _ c.bytes.ensures _ _ c.in_ok-at.was in
    omega arith

pub returns : goal.returns
unfolding header_of check
returns c =
    rw (
      count-read _ _ _ c.count.ensures _ _ c.in_ok-n.was,
      sym c.is_count.ensures ∙ c.if-not-is_count.false,
      bytes_read _ _ _ _ c.bytes.ensures _ _ c.in_ok-at.was,
      ← c.shape_at.ensures,
    )
    (c.headed.ensures _ c.given_at.ensures)
