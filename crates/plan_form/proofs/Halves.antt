-- Numbers of four bytes are made of two of two bytes, and numbers of two bytes are below 65,536.
use mathlib.Core.Path.{◌≡◌}
use mathlib.Core.List.{List}
use Prim.Native.Nat.{ℕ, ◌+◌, ◌*◌, ◌<◌}
use native.Mathlib.Omega.{arith}
use lib.ListN.{get_or}
use Rattle.cursor.specs.Steps.{word}
use Rattle.plan_form.specs.Entries.{half}

pub word-halves : (xs : List ℕ) (at : ℕ) → half xs at + 65536 * half xs (at + 2) ≡ word xs at
unfolding half word
word-halves xs at = let e : at + 2 + 1 ≡ at + 3 = omega arith in rw e (omega arith)

pub half_lt : (xs : List ℕ) (at : ℕ) → ((i : ℕ) → get_or xs i 0 < 256) → half xs at < 65536
unfolding half
half_lt xs at small = omega (arith, small at, small (at + 1))
