-- Texts one behind the other: one more in a buffer, and a run that is printed in pieces.
use mathlib.Core.Path.{◌≡◌, sym}
use mathlib.Core.List.{List, ◌++◌, append_assoc, append-nil}
use Prim.Native.Nat.{ℕ, zero, suc, ◌+◌}
use native.Mathlib.Nat.{add-zero, add-suc, add_assoc}
use native.Mathlib.Numerals.{add-one}
use native.Mathlib.Omega.{arith}
use Rattle.printing.specs.Append.{Appended}
use Rattle.printing.proofs.Appending.{append-append, append-nothing}
use Rattle.receive.specs.Printed.{joined}

pub joined-none : (b : List ℕ) (text : ℕ → List ℕ) (from : ℕ) → Appended b 0 (joined text from 0) b 0
unfolding joined
joined-none b text from = append-nothing b 0 (omega arith)

pub joined-more : (b : List ℕ) (text : ℕ → List ℕ) (from i : ℕ) (m : List ℕ) (e : ℕ) (a : List ℕ) (f : ℕ) → Appended b 0 (joined text from i) m e
    → Appended m e (text (from + i)) a f → Appended b 0 (joined text from (i + 1)) a f
unfolding joined
joined-more b text from i m e a f first second = rw (add-one i) (append-append b 0 (joined text from i) m e (text (from + i)) a f first second)

-- "in pieces": a run is its first texts and the others behind them
pub joined-pieces : (text : ℕ → List ℕ) (from k n : ℕ) → joined text from (k + n) ≡ joined text from k ++ joined text (from + k) n
unfolding joined
joined-pieces text from k zero = rw (add-zero k) (sym (append-nil (joined text from k)))
joined-pieces text from k (suc n) =
    rw (add-suc k n, joined-pieces text from k n, append_assoc (joined text from k) (joined text (from + k) n) (text (from + (k + n))), add_assoc from k n)
