-- `open` refuses a length above the buffer and a byte behind the file, and else copies the file.
use native.Mathlib.Omega.{arith}
use Rattle.answer.specs.Refusals.{fault_number}
use Rattle.answer.specs.Values.{refusal, value_of}
use Rattle.receiver.proofs.HeldFile.{held_small, read_told, opened-long, opened-later, opened-held}
use Rattle.receiver.proofs.file.open.Goals as goal
use Rattle.receiver.proofs.file.open.Goals.{then-buffer-n-via-then-buffer-n, then-buffer-n-via-else-buffer-n+then-not-zero_behind}

pub returns-then-buffer-n : goal.returns-then-buffer-n
unfolding value_of refusal fault_number
returns-then-buffer-n c =
    elim c.then-buffer-n.branch [
      | then-buffer-n-via-then-buffer-n w ↦ opened-long _ _ _ c.requires.2 _ c.held_length-n.ensures w.if-buffer-n.true
      | then-buffer-n-via-else-buffer-n+then-not-zero_behind w ↦
          opened-later _ _ _ c.requires.2 _ c.held_length-n.ensures _ w.zero_behind.ensures w.if-not-zero_behind.true
    ]

pub returns : goal.returns
unfolding value_of
returns c =
    let fits = c.if-buffer-n.false in
    let copy = read_told _ _ _ _ _ _ _ _ c.requires.0.valid c.requires.0.size (omega (arith, c.requires.1, c.requires.2)) (omega arith) c.read_data.ensures in
    opened-held _ _ _ c.requires.2 _ c.held_length-n.ensures _ c.zero_behind.ensures _
    (held_small _ _ (λ p. omega (arith, c.shared_slice_known-1.given p))) c.requires.1 (omega arith) c.if-not-zero_behind.false copy
