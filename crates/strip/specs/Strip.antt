-- Strips, lists of 64 bytes: what their calls make of them, byte by byte.
use Rattle.std.specs.Prelude.{◌≡◌, List, ℕ, ◌<◌, length, get_or}
use Rattle.field.specs.Field.{add, mul, xtime}

-- Horner's step by a place whose bytes are c: what it makes of the strips a0 and a1.
pub record Step (r : ℕ) (c a0 a1 b0 b1 : List ℕ) : Type 0 where
  pub size0 : length b0 ≡ length a0
  pub size1 : length b1 ≡ length a1
  pub first : length a0 ≡ 64 → (t : ℕ) → t < 64 → get_or b0 t 0 ≡ add (get_or a0 t 0) (get_or c t 0)
  pub second : length a1 ≡ 64 → (t : ℕ) → t < 64 → get_or b1 t 0 ≡ add (xtime r (get_or a1 t 0)) (get_or c t 0)

-- y is b times a0 plus d times a1.
pub record Products (r b d : ℕ) (a0 a1 y : List ℕ) : Type 0 where
  pub size : length y ≡ 64
  pub bytes : (t : ℕ) → t < 64 → get_or y t 0 ≡ add (mul r (get_or a0 t 0) b) (mul r (get_or a1 t 0) d)

-- c is a plus b.
pub record Sums (a b c : List ℕ) : Type 0 where
  pub size : length c ≡ 64
  pub bytes : (t : ℕ) → t < 64 → get_or c t 0 ≡ add (get_or a t 0) (get_or b t 0)

-- The first n bytes of both lists are 00h.
pub record AllZero (n : ℕ) (a0 a1 : List ℕ) : Type 0 where
  pub first : (t : ℕ) → t < n → get_or a0 t 0 ≡ 0
  pub second : (t : ℕ) → t < n → get_or a1 t 0 ≡ 0
