-- The field GF(256) of document 01, "Field", over the reduction byte r: multiplication is modulo the polynomial x^8 + r.
use Rattle.std.specs.Prelude.{◌≡◌, ◌≢◌, ℕ, zero, suc, ◌*◌, ◌/◌, ◌%◌, ◌<◌}
use Rattle.std.specs.Int.Bits.{bit_xor}

-- "Addition is exclusive or of the bits."
unfoldable pub add : ℕ → ℕ → ℕ
add a b = bit_xor a b

-- "modulo 1C3h (degrees 8, 7, 6, 1, 0)": what is left of the polynomial without x^8
unfoldable pub reduction : ℕ
reduction = 0xC3

-- the product of a and the polynomial x
unfoldable pub xtime : ℕ → ℕ → ℕ
xtime r a = add (r * (a / 128 % 2)) (a * 2 % 256)

-- the product of a and the polynomial whose n coefficients are the low bits of b
unfoldable pub mul_bits : ℕ → ℕ → ℕ → ℕ → ℕ
mul_bits r a zero b = 0
mul_bits r a (suc n) b = add ((b % 2) * (a % 256)) (xtime r (mul_bits r a n (b / 2)))

-- "Multiplication is that of binary polynomials"
unfoldable pub mul : ℕ → ℕ → ℕ → ℕ
mul r a b = mul_bits r a 8 b

-- "α is 02h": the powers of α
unfoldable pub pow : ℕ → ℕ → ℕ
pow r zero = 1
pow r (suc i) = xtime r (pow r i)

-- the n-th power of a
unfoldable pub expt : ℕ → ℕ → ℕ → ℕ
expt r a zero = 1
expt r a (suc n) = mul r a (expt r a n)

-- the inverse of a nonzero byte, and 0 for 0
unfoldable pub inverse : ℕ → ℕ → ℕ
inverse r a = expt r a 254

-- "its powers 0 to 254 are the 255 nonzero bytes"
pub record Primitive (r : ℕ) : Type 0 where
  pub fits : r < 256
  pub nonzero : (i : ℕ) → i < 255 → pow r i ≢ 0
  pub different : (i j : ℕ) → i < 255 → j < 255 → pow r i ≡ pow r j → i ≡ j
  pub every : (a : ℕ) → a < 256 → a ≢ 0 → (i : ℕ) × (i < 255) × (pow r i ≡ a)
  pub period : pow r 255 ≡ 1
