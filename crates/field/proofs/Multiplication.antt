-- The laws of multiplication modulo the polynomial x^8 + r. The product by x is additive, so the product of two elements
-- is additive in each; a product by x passes through it, from which it is commutative and associative.
use mathlib.Core.Path.{◌≡◌, refl, sym, ap, ap₂, ◌∙◌}
use Prim.Native.Nat.{ℕ, zero, suc, ◌+◌, ◌*◌, ◌/◌, ◌%◌, ◌^◌, ◌≤◌, ◌<◌}
use native.Mathlib.Nat.{mod-lt, mul_comm as times-comm, mul-one, mul-zero, one-mul, zero-mul, mod-eq_of_lt, mod-one, lt_of_lt_of_le, div-add-mod'}
use native.Mathlib.Omega.{arith}
use native.Mathlib.Numerals.{add-one}
use lib.Arith.{lt-one}
use lib.Pow.{pow_pos, pow_mono, mod-pow-add, mod-mod-pow, field, shr_lt}
use lib.Bits.{xor_shr, xor_mod}
use Rattle.field.specs.Field.{add, xtime, mul_bits, mul}
use Rattle.field.proofs.Addition.{bit-ind, add_half, add-odd, add_zero_l, add_zero_r, add_comm, add_assoc, add_left_comm, add-swap, add-self, add-cancel, add-lt}

-- ---- sums and bits

-- a bit times a number is additive in the bit, and in the number
bit-mul-add : (r a b : ℕ) → r * (add a b % 2) ≡ add (r * (a % 2)) (r * (b % 2))
bit-mul-add r a b =
    rw add-odd
    (bit-ind (λ (x : ℕ). r * add x (b % 2) ≡ add (r * x) (r * (b % 2))) (simp (add_zero_l, mul-zero))
    (bit-ind (λ (y : ℕ). r * add 1 y ≡ add (r * 1) (r * y)) (simp (add_zero_r, mul-zero, mul-one))
    (simp (add-self, mul-zero, mul-one)) b) a)

bit-add : (n a b : ℕ) → (n % 2) * add a b ≡ add ((n % 2) * a) ((n % 2) * b)
bit-add n a b = bit-ind (λ (x : ℕ). x * add a b ≡ add (x * a) (x * b)) (simp (zero-mul, add_zero_l)) (simp one-mul) n

double-add : (a b : ℕ) → add a b * 2 ≡ add (a * 2) (b * 2)
double-add a b =
    let half : add (a * 2) (b * 2) / 2 ≡ add a b = add_half (a * 2) (b * 2) ∙ ap₂ add (omega arith) (omega arith) in
    let odd : add (a * 2) (b * 2) % 2 ≡ 0 = add-odd (a * 2) (b * 2) ∙ ap₂ add (omega arith) (omega arith) ∙ add-self 0 in
    omega arith

bit-add-even : (n c : ℕ) → add (n % 2) (c * 2) ≡ c * 2 + n % 2
bit-add-even n c =
    let half : add (n % 2) (c * 2) / 2 ≡ c = add_half (n % 2) (c * 2) ∙ ap₂ add (omega arith) (omega arith) ∙ add_zero_l c in
    let odd : add (n % 2) (c * 2) % 2 ≡ n % 2 = add-odd (n % 2) (c * 2) ∙ ap₂ add (omega arith) (omega arith) ∙ add_zero_r (n % 2) in
    omega arith

low-add : (a b : ℕ) → add a b % 256 ≡ add (a % 256) (b % 256)
unfolding add
low-add a b = xor_mod a b 8

high-add : (a b : ℕ) → add a b / 128 ≡ add (a / 128) (b / 128)
unfolding add
high-add a b = xor_shr a b 7

-- ---- the product by x

pub xtime-zero : (r : ℕ) → xtime r 0 ≡ 0
unfolding xtime
xtime-zero r = simp (mul-zero, add_zero_l)

pub xtime-add : (r a b : ℕ) → xtime r (add a b) ≡ add (xtime r a) (xtime r b)
unfolding xtime
xtime-add r a b = rw (high-add, bit-mul-add, double-add, low-add) (add-swap _ _ _ _)

pub xtime-lt : (r a : ℕ) → r < 256 → xtime r a < 256
unfolding xtime
xtime-lt r a fits =
    let top : r * (a / 128 % 2) < 256 = bit-ind (λ (x : ℕ). r * x < 256) (omega arith) (omega arith) (a / 128) in
    add-lt _ _ top (omega arith)

-- only the byte counts
xtime-byte : (r a : ℕ) → xtime r (a % 256) ≡ xtime r a
unfolding xtime
xtime-byte r a = ap₂ (λ (t l : ℕ). add (r * t) l) (omega arith) (omega arith)

-- no reduction below 128
xtime-double : (r a : ℕ) → a < 128 → xtime r a ≡ a * 2
unfolding xtime
xtime-double r a h =
    let top : a / 128 % 2 ≡ 0 = omega arith in
    let low : a * 2 % 256 ≡ a * 2 = omega arith in
    rw (top, low) (simp (mul-zero, add_zero_l))

xtime-bit : (r n a : ℕ) → xtime r ((n % 2) * a) ≡ (n % 2) * xtime r a
xtime-bit r n a = bit-ind (λ (x : ℕ). xtime r (x * a) ≡ x * xtime r a) (simp (zero-mul, xtime-zero)) (simp one-mul) n

-- ---- the product by the n low bits

mul_bits-zero-l : (r n b : ℕ) → mul_bits r 0 n b ≡ 0
unfolding mul_bits
mul_bits-zero-l r zero b = refl
mul_bits-zero-l r (suc n) b = rw (mul_bits-zero-l r n (b / 2)) (simp (mul-zero, xtime-zero, add_zero_l))

mul_bits-zero-r : (r a n : ℕ) → mul_bits r a n 0 ≡ 0
unfolding mul_bits
mul_bits-zero-r r a zero = refl
mul_bits-zero-r r a (suc n) = rw (mul_bits-zero-r r a n) (simp (zero-mul, xtime-zero, add_zero_l))

mul_bits-add-l : (r a b n c : ℕ) → mul_bits r (add a b) n c ≡ add (mul_bits r a n c) (mul_bits r b n c)
unfolding mul_bits
mul_bits-add-l r a b zero c = sym (add-self 0)
mul_bits-add-l r a b (suc n) c = rw (low-add a b, bit-add c, mul_bits-add-l r a b n (c / 2), xtime-add) (add-swap _ _ _ _)

mul_bits-add-r : (r a n b c : ℕ) → mul_bits r a n (add b c) ≡ add (mul_bits r a n b) (mul_bits r a n c)
unfolding mul_bits
mul_bits-add-r r a zero b c = sym (add-self 0)
mul_bits-add-r r a (suc n) b c = rw (add_half b c, mul_bits-add-r r a n (b / 2) (c / 2), xtime-add, times-comm (add b c % 2), bit-mul-add, times-comm (a % 256) (b % 2), times-comm (a % 256) (c % 2)) (add-swap _ _ _ _)

mul_bits-byte-l : (r a n b : ℕ) → mul_bits r (a % 256) n b ≡ mul_bits r a n b
unfolding mul_bits
mul_bits-byte-l r a zero b = refl
mul_bits-byte-l r a (suc n) b = ap₂ (λ (x y : ℕ). add ((b % 2) * x) (xtime r y)) (omega arith) (mul_bits-byte-l r a n (b / 2))

mul_bits-byte-r : (r a n b : ℕ) → mul_bits r a n (b % 2 ^ n) ≡ mul_bits r a n b
unfolding mul_bits
mul_bits-byte-r r a zero b = refl
mul_bits-byte-r r a (suc n) b =
    ap₂ (λ (x y : ℕ). add (x * (a % 256)) (xtime r y))
    (ap (λ (m : ℕ). b % 2 ^ m % 2) (sym (add-one n)) ∙ mod-mod-pow b n 1)
    (ap (λ (m : ℕ). mul_bits r a n (b % 2 ^ m / 2)) (sym (add-one n)) ∙ ap (mul_bits r a n) (field b n 1) ∙ mul_bits-byte-r r a n (b / 2))

-- the product by x passes through, as far as it is a byte
mul_bits-xtime : (r a n b : ℕ) → xtime r a < 256 → xtime r (mul_bits r a n b) ≡ mul_bits r (xtime r a) n b
unfolding mul_bits
mul_bits-xtime r a zero b h = xtime-zero r
mul_bits-xtime r a (suc n) b h =
    rw (xtime-add, xtime-bit, xtime-byte, mul_bits-xtime r a n (b / 2) h, mod-eq_of_lt {n = xtime r a} {m = 256} h)

-- the unit, as far as nothing is reduced
mul_bits-one : (r n b : ℕ) → n ≤ 8 → mul_bits r 1 n b ≡ b % 2 ^ n
unfolding mul_bits
mul_bits-one r zero b h = sym (mod-one b)
mul_bits-one r (suc n) b h =
    let small : b / 2 % 2 ^ n < 128 = lt_of_lt_of_le (mod-lt (b / 2) (pow_pos n)) (pow_mono {i = n} {j = 7} (omega arith)) in
    rw (mul_bits-one r n (b / 2) (omega arith), xtime-double r (b / 2 % 2 ^ n), mul-one (b % 2), ← add-one n, mod-pow-add b n 1) (bit-add-even b (b / 2 % 2 ^ n))

-- ---- the product

pub mul-zero-l : (r b : ℕ) → mul r 0 b ≡ 0
unfolding mul
mul-zero-l r b = mul_bits-zero-l r 8 b

pub mul-zero-r : (r a : ℕ) → mul r a 0 ≡ 0
unfolding mul
mul-zero-r r a = mul_bits-zero-r r a 8

pub mul-add-l : (r a b c : ℕ) → mul r (add a b) c ≡ add (mul r a c) (mul r b c)
unfolding mul
mul-add-l r a b c = mul_bits-add-l r a b 8 c

pub mul-add-r : (r a b c : ℕ) → mul r a (add b c) ≡ add (mul r a b) (mul r a c)
unfolding mul
mul-add-r r a b c = mul_bits-add-r r a 8 b c

mul-one-byte : (r b : ℕ) → mul r 1 b ≡ b % 256
unfolding mul
mul-one-byte r b = mul_bits-one r 8 b (omega arith)

mul-double : (r a b : ℕ) → a < 128 → mul r (a * 2) b ≡ xtime r (mul r a b)
unfolding mul
mul-double r a b h =
    let double : xtime r a ≡ a * 2 = xtime-double r a h in
    rw (← double) (sym (mul_bits-xtime r a 8 b (omega arith)))

mul-bit : (r n b : ℕ) → mul r (n % 2) b ≡ (n % 2) * (b % 256)
mul-bit r n b = bit-ind (λ (x : ℕ). mul r x b ≡ x * (b % 256)) (simp (mul-zero-l, zero-mul)) (simp (mul-one-byte, one-mul)) n

-- by induction on the bits of the left factor: the product is that of the right factor and those bits
mul_bits-mul : (r a b k : ℕ) → k ≤ 8 → a < 2 ^ k → mul_bits r b k a ≡ mul r a b
unfolding mul_bits
mul_bits-mul r a b zero h ha = sym (ap (λ (x : ℕ). mul r x b) (lt-one ha) ∙ mul-zero-l r b)
mul_bits-mul r a b (suc k) h ha =
    let half : a / 2 < 2 ^ k = shr_lt k 1 (rw (add-one k) ha) in
    let small : a / 2 < 128 = lt_of_lt_of_le half (pow_mono {i = k} {j = 7} (omega arith)) in
    rw (mul_bits-mul r (a / 2) b k (omega arith) half, ← mul-double r (a / 2) b small, ← mul-bit r a b, ← mul-add-l r (a % 2) (a / 2 * 2) b)
    (ap (λ (x : ℕ). mul r x b) (bit-add-even a (a / 2) ∙ div-add-mod' a 2))

mul-byte-l : (r a b : ℕ) → mul r (a % 256) b ≡ mul r a b
unfolding mul
mul-byte-l r a b = mul_bits-byte-l r a 8 b

mul-byte-r : (r a b : ℕ) → mul r a (b % 256) ≡ mul r a b
unfolding mul
mul-byte-r r a b = mul_bits-byte-r r a 8 b

pub mul_comm : (r a b : ℕ) → mul r a b ≡ mul r b a
unfolding mul
mul_comm r a b = sym (mul-byte-r r a b) ∙ mul_bits-mul r (b % 256) a 8 (omega arith) (omega arith) ∙ mul-byte-l r b a

pub mul-one-l : (r a : ℕ) → a < 256 → mul r 1 a ≡ a
mul-one-l r a h = mul-one-byte r a ∙ mod-eq_of_lt h

pub mul-one-r : (r a : ℕ) → a < 256 → mul r a 1 ≡ a
mul-one-r r a h = mul_comm r a 1 ∙ mul-one-l r a h

-- x is the polynomial 2
pub xtime-mul : (r a : ℕ) → xtime r a ≡ mul r 2 a
xtime-mul r a =
    sym (xtime-byte r a) ∙ ap (xtime r) (sym (mul-one-byte r a)) ∙ sym (mul-double r 1 a (omega arith))

-- ---- where the reduction byte is a byte

mul_bits-lt : (r a n b : ℕ) → r < 256 → mul_bits r a n b < 256
unfolding mul_bits
mul_bits-lt r a zero b fits = omega arith
mul_bits-lt r a (suc n) b fits =
    add-lt _ _ (bit-ind (λ (x : ℕ). x * (a % 256) < 256) (omega arith) (omega arith) b) (xtime-lt r _ fits)

pub mul-lt : (r a b : ℕ) → r < 256 → mul r a b < 256
unfolding mul
mul-lt r a b fits = mul_bits-lt r a 8 b fits

pub xtime-mul-l : (r a b : ℕ) → r < 256 → xtime r (mul r a b) ≡ mul r (xtime r a) b
unfolding mul
xtime-mul-l r a b fits = mul_bits-xtime r a 8 b (xtime-lt r a fits)

pub xtime-mul-r : (r a b : ℕ) → r < 256 → xtime r (mul r a b) ≡ mul r a (xtime r b)
xtime-mul-r r a b fits = ap (xtime r) (mul_comm r a b) ∙ xtime-mul-l r b a fits ∙ mul_comm r (xtime r b) a

mul-bit-r : (r a n b : ℕ) → r < 256 → mul r a ((n % 2) * (b % 256)) ≡ (n % 2) * (mul r a b % 256)
mul-bit-r r a n b fits =
    bit-ind (λ (x : ℕ). mul r a (x * (b % 256)) ≡ x * (mul r a b % 256)) (simp (zero-mul, mul-zero-r))
    (simp (one-mul, mul-byte-r) (sym (mod-eq_of_lt (mul-lt r a b fits)))) n

mul_bits-assoc : (r a b n c : ℕ) → r < 256 → mul_bits r (mul r a b) n c ≡ mul r a (mul_bits r b n c)
unfolding mul_bits
mul_bits-assoc r a b zero c fits = sym (mul-zero-r r a)
mul_bits-assoc r a b (suc n) c fits =
    rw (mul_bits-assoc r a b n (c / 2) fits, xtime-mul-r r a (mul_bits r b n (c / 2)) fits, ← mul-bit-r r a c b fits) (sym (mul-add-r r a _ _))

pub mul_assoc : (r a b c : ℕ) → r < 256 → mul r (mul r a b) c ≡ mul r a (mul r b c)
mul_assoc r a b c fits = unfold mul in mul_bits-assoc r a b 8 c fits

pub mul_left_comm : (r a b c : ℕ) → r < 256 → mul r a (mul r b c) ≡ mul r b (mul r a c)
mul_left_comm r a b c fits =
    sym (mul_assoc r a b c fits) ∙ ap (λ (x : ℕ). mul r x c) (mul_comm r a b) ∙ mul_assoc r b a c fits

-- `simp ring` proves what follows from the laws of a commutative ring in which x + x = 0; `r < 256` must be in scope.
pub ruleset ring = (add_assoc, add_comm, add_left_comm, add-swap, add-self, add-cancel, add_zero_l, add_zero_r, mul-add-l, mul-add-r, mul-zero-l, mul-zero-r, mul_assoc, mul_comm, mul_left_comm)
