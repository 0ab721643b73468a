-- `cursor::Cursor::bytes` meets its contract. Assumes nothing.
use native.Mathlib.Omega.{arith}
use Rattle.cursor.proofs.Steps.{cut-bytes, whole-bytes}
use Rattle.cursor.proofs.Cursor.bytes.Goals as goal

pub returns-then-len-n : goal.returns-then-len-n
returns-then-len-n c = cut-bytes _ _ _ (omega arith)

pub returns : goal.returns
returns c = whole-bytes _ _ _ (omega arith)
