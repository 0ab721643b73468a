-- Stretches of equal length, one after the other.
use Prim.Native.Nat.{ℕ, ◌+◌, ◌*◌, ◌≤◌, ◌<◌}
use native.Mathlib.Nat.{suc-mul, mul-le-mul_right}
use native.Mathlib.Decide.{dec_lt}
use native.Mathlib.Omega.{arith}

-- stretch b ends where the next begins
pub stretch-end : (b n s : ℕ) → b < n → b * s + s ≤ n * s
stretch-end b n s l = omega (arith, suc-mul b s, mul-le-mul_right s l)

-- a stretch that begins before the end of b stretches is one of them
pub factor-below : (a b s : ℕ) → a * s < b * s → a < b
factor-below a b s l = elim (dec_lt a b) [ yes m ↦ m | no n ↦ let h : b ≤ a = omega arith in absurd (omega (arith, mul-le-mul_right s h)) ]
