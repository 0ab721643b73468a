-- `cursor::Cursor::count` meets its contract: a count is the word in the four bytes at the cursor. Assumes nothing.
use native.Mathlib.Omega.{arith}
use Rattle.answer.specs.Values.{passes}
use Rattle.answer.proofs.Values.{handed-on}
use Rattle.cursor.specs.Steps.{word, count, bytes}
use Rattle.cursor.proofs.Steps.{bytes-known, bytes-refused, whole-count}
use Rattle.cursor.proofs.Cursor.count.Goals as goal

pub returns-in_err-at : goal.returns-in_err-at
unfolding count bytes
returns-in_err-at c =
    handed-on _ _ _ c.from_residual.ensures.1
    (bytes-refused _ _ _ _ c.bytes.ensures _ c.in_err-at.was (λ at next. passes (word c.args.pack.now at, next)))

pub word-requires : goal.word-requires
word-requires c =
    let (inside, at, _) = bytes-known _ _ _ _ c.bytes.ensures _ _ c.in_ok-at.was in
    omega arith

pub returns : goal.returns
returns c =
    let (inside, at, next) = bytes-known _ _ _ _ c.bytes.ensures _ _ c.in_ok-at.was in
    rw next (whole-count _ _ _ inside (rw at at c.word.ensures))
