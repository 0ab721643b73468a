-- `pack::reading::air_behind` meets its contract: each return follows the definition step by step. Assumes nothing.
use Prim.Native.Nat.{ℕ}
use native.Mathlib.Omega.{arith}
use borrow.Author.Tests.{eq-eqb, ne_eqb}
use Rattle.answer.specs.Refusals.{fault_number}
use Rattle.answer.specs.Values.{refusal, check, checked, value_of}
use Rattle.answer.proofs.Values.{handed-on}
use Rattle.pack.specs.Reading.{end, packet_size, air_behind}
use Rattle.cursor.proofs.Steps.{count-read, count-refused, count-lt, bytes_read, bytes-refused}
use Rattle.pack.proofs.Sound.{packets-le}
use Rattle.pack.proofs.reading.air_behind.Goals as goal

pub returns-in_err-n : goal.returns-in_err-n
unfolding air_behind
returns-in_err-n c = handed-on _ _ _ c.from_residual.ensures.1 (count-refused _ _ _ c.count.ensures _ c.in_err-n.was _)

pub returns-then-n-ne0 : goal.returns-then-n-ne0
unfolding air_behind value_of refusal fault_number check checked
returns-then-n-ne0 c =
    rw (count-read _ _ _ c.count.ensures _ _ c.in_ok-n.was, ne_eqb _ _ c.if-n-ne0.true)

pub returns-in_err-packets : goal.returns-in_err-packets
unfolding air_behind check
returns-in_err-packets c =
    handed-on _ _ _ c.from_residual-in_err-packets.ensures.1
    (rw (
      count-read _ _ _ c.count.ensures _ _ c.in_ok-n.was,
      eq-eqb _ _ c.if-n-ne0.false,
    )
    (count-refused _ _ _ c.count-2.ensures _ c.in_err-packets.was _))

pub overflow_add-sh : goal.overflow_add-sh
overflow_add-sh c = omega (arith, c.requires)

pub overflow_mul-packets : goal.overflow_mul-packets
overflow_mul-packets c =
    omega
    (arith, packets-le _ _ (count-lt _ _ _ c.count-2.ensures (λ (i : ℕ). omega (arith, c.shared_slice_known-1.given i)) _ _ c.in_ok-packets.was) c.requires)

pub returns-in_err-at : goal.returns-in_err-at
unfolding air_behind check packet_size
returns-in_err-at c =
    handed-on _ _ _ c.from_residual-in_err-at.ensures.1
    (rw (
      count-read _ _ _ c.count.ensures _ _ c.in_ok-n.was,
      eq-eqb _ _ c.if-n-ne0.false,
      count-read _ _ _ c.count-2.ensures _ _ c.in_ok-packets.was,
    )
    (bytes-refused _ _ _ _ c.bytes.ensures _ c.in_err-at.was _))

pub returns-then-pack-end : goal.returns-then-pack-end
unfolding air_behind value_of refusal fault_number check checked packet_size end
returns-then-pack-end c =
    rw (
      count-read _ _ _ c.count.ensures _ _ c.in_ok-n.was,
      eq-eqb _ _ c.if-n-ne0.false,
      count-read _ _ _ c.count-2.ensures _ _ c.in_ok-packets.was,
      bytes_read _ _ _ _ c.bytes.ensures _ _ c.in_ok-at.was,
      ne_eqb _ _ c.if-pack-end.true,
    )

pub returns : goal.returns
unfolding air_behind value_of refusal fault_number check checked packet_size end
returns c =
    rw (
      count-read _ _ _ c.count.ensures _ _ c.in_ok-n.was,
      eq-eqb _ _ c.if-n-ne0.false,
      count-read _ _ _ c.count-2.ensures _ _ c.in_ok-packets.was,
      bytes_read _ _ _ _ c.bytes.ensures _ _ c.in_ok-at.was,
      eq-eqb _ _ c.if-pack-end.false,
    )
