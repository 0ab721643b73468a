-- `pack::reading::job_behind` meets its contract: each return follows the definition step by step. Assumes nothing.
use Prim.Native.Nat.{ℕ}
use native.Mathlib.Omega.{arith}
use borrow.Author.Tests.{le-leb, lt-leb, eq-eqb, ne_eqb}
use Rattle.answer.specs.Refusals.{fault_number}
use Rattle.answer.specs.Values.{refusal, check, checked, value_of}
use Rattle.answer.proofs.Values.{handed-on}
use Rattle.pack.specs.Reading.{end, job_behind}
use Rattle.cursor.proofs.Steps.{count-read, count-refused, count-lt, bytes_read, bytes-refused}
use Rattle.pack.proofs.Sound.{used-bytes-le}
use Rattle.pack.proofs.reading.job_behind.Goals as goal

pub returns-in_err-n : goal.returns-in_err-n
unfolding job_behind
returns-in_err-n c = handed-on _ _ _ c.from_residual.ensures.1 (count-refused _ _ _ c.count.ensures _ c.in_err-n.was _)

pub overflow_add-n : goal.overflow_add-n
overflow_add-n c = omega (arith, count-lt _ _ _ c.count.ensures (λ (i : ℕ). omega (arith, c.shared_slice_known-1.given i)) _ _ c.in_ok-n.was)

pub returns-then-sizes-n : goal.returns-then-sizes-n
unfolding job_behind value_of refusal fault_number check checked
returns-then-sizes-n c =
    rw (count-read _ _ _ c.count.ensures _ _ c.in_ok-n.was, lt-leb _ _ c.if-sizes-n.true)

pub overflow_mul-h : goal.overflow_mul-h
overflow_mul-h c = omega (arith, used-bytes-le _ _ c.requires.0 c.requires.1)

pub overflow_add-n-2 : goal.overflow_add-n-2
overflow_add-n-2 c = omega (arith, count-lt _ _ _ c.count.ensures (λ (i : ℕ). omega (arith, c.shared_slice_known-1.given i)) _ _ c.in_ok-n.was)

pub returns-then-h-sh : goal.returns-then-h-sh
unfolding job_behind value_of refusal fault_number check checked
returns-then-h-sh c =
    rw (
      count-read _ _ _ c.count.ensures _ _ c.in_ok-n.was,
      le-leb _ _ c.if-sizes-n.false,
      lt-leb _ _ c.if-h-sh.true,
    )

pub returns-in_err-at : goal.returns-in_err-at
unfolding job_behind check
returns-in_err-at c =
    handed-on _ _ _ c.from_residual-in_err-at.ensures.1
    (rw (
      count-read _ _ _ c.count.ensures _ _ c.in_ok-n.was,
      le-leb _ _ c.if-sizes-n.false,
      le-leb _ _ c.if-h-sh.false,
    )
    (bytes-refused _ _ _ _ c.bytes.ensures _ c.in_err-at.was _))

pub returns-in_err-packets : goal.returns-in_err-packets
unfolding job_behind check
returns-in_err-packets c =
    handed-on _ _ _ c.from_residual-in_err-packets.ensures.1
    (rw (
      count-read _ _ _ c.count.ensures _ _ c.in_ok-n.was,
      le-leb _ _ c.if-sizes-n.false,
      le-leb _ _ c.if-h-sh.false,
      bytes_read _ _ _ _ c.bytes.ensures _ _ c.in_ok-at.was,
    )
    (count-refused _ _ _ c.count-2.ensures _ c.in_err-packets.was _))

pub returns-then-packets-ne0 : goal.returns-then-packets-ne0
unfolding job_behind value_of refusal fault_number check checked
returns-then-packets-ne0 c =
    rw (
      count-read _ _ _ c.count.ensures _ _ c.in_ok-n.was,
      le-leb _ _ c.if-sizes-n.false,
      le-leb _ _ c.if-h-sh.false,
      bytes_read _ _ _ _ c.bytes.ensures _ _ c.in_ok-at.was,
      count-read _ _ _ c.count-2.ensures _ _ c.in_ok-packets.was,
      ne_eqb _ _ c.if-packets-ne0.true,
    )

pub returns-then-pack-rest : goal.returns-then-pack-rest
unfolding job_behind value_of refusal fault_number check checked end
returns-then-pack-rest c =
    rw (
      count-read _ _ _ c.count.ensures _ _ c.in_ok-n.was,
      le-leb _ _ c.if-sizes-n.false,
      le-leb _ _ c.if-h-sh.false,
      bytes_read _ _ _ _ c.bytes.ensures _ _ c.in_ok-at.was,
      count-read _ _ _ c.count-2.ensures _ _ c.in_ok-packets.was,
      eq-eqb _ _ c.if-packets-ne0.false,
      ne_eqb _ _ c.if-pack-rest.true,
    )

pub returns : goal.returns
unfolding job_behind value_of refusal fault_number check checked end
returns c =
    rw (
      count-read _ _ _ c.count.ensures _ _ c.in_ok-n.was,
      le-leb _ _ c.if-sizes-n.false,
      le-leb _ _ c.if-h-sh.false,
      bytes_read _ _ _ _ c.bytes.ensures _ _ c.in_ok-at.was,
      count-read _ _ _ c.count-2.ensures _ _ c.in_ok-packets.was,
      eq-eqb _ _ c.if-packets-ne0.false,
      eq-eqb _ _ c.if-pack-rest.false,
    )
