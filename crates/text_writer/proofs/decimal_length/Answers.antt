-- `text_writer::decimal_length` meets its contract. Assumes nothing.
use mathlib.Core.Path.{◌≡◌, sym}
use Prim.Native.Nat.{ℕ, ◌<◌}
use native.Mathlib.Decide.{dec_lt}
use native.Mathlib.Omega.{arith}
use lib.ListN.{length}
use Rattle.printing.specs.Text.{decimal}
use Rattle.printing.proofs.Numerals.{decimal-length, zero-length}
use Rattle.text_writer.proofs.decimal_length.Goals as goal

one-digit : (n : ℕ) → n < 10 → length (decimal n) ≡ 1
one-digit n l = elim (dec_lt n 1) [
  | yes z ↦ let none : n ≡ 0 = omega arith in rw none zero-length
  | no m ↦ decimal-length 0 n (omega arith) (omega arith) (omega arith)
]

pub returns-in-0-to-9 : goal.returns-in-0-to-9
returns-in-0-to-9 c = (sym (one-digit _ (omega arith)), omega arith)

pub returns-in-10-to-99 : goal.returns-in-10-to-99
returns-in-10-to-99 c = (sym (decimal-length 1 _ (omega arith) (omega arith) (omega arith)), omega arith)

pub returns-in-100-to-999 : goal.returns-in-100-to-999
returns-in-100-to-999 c = (sym (decimal-length 2 _ (omega arith) (omega arith) (omega arith)), omega arith)

pub returns-in_default : goal.returns-in_default
returns-in_default c = (sym (decimal-length 3 _ (omega arith) (omega arith) (omega arith)), omega arith)
