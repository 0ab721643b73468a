-- The laws of powers, of α and of any element, and from them those of the inverse where α is primitive: every nonzero byte
-- is a power of α, and the 255th power of each is 1, so its 254th is its inverse.
use mathlib.Core.Path.{◌≡◌, refl, sym, ap, ◌∙◌}
use mathlib.Core.Logic.{◌≢◌}
use Prim.Native.Nat.{ℕ, zero, suc, ◌+◌, ◌*◌, ◌<◌}
use native.Mathlib.Nat.{zero-add, suc-add, suc-mul, mul-suc, zero-mul, mul-zero}
use native.Mathlib.Omega.{arith}
use Rattle.field.specs.Field.{add, xtime, mul, pow, expt, inverse, Primitive}
use Rattle.field.proofs.Addition.{add-eq-zero}
use Rattle.field.proofs.Multiplication.{xtime-lt, xtime-mul-l, mul_comm, mul_assoc, mul-one-l, mul-one-r, mul-zero-l, mul-zero-r, mul-lt}

pub pow-zero : (r : ℕ) → pow r 0 ≡ 1
unfolding pow
pow-zero r = refl

pub pow-suc : (r i : ℕ) → pow r (suc i) ≡ xtime r (pow r i)
unfolding pow
pow-suc r i = refl

pub pow-lt : (r i : ℕ) → r < 256 → pow r i < 256
unfolding pow
pow-lt r zero fits = omega arith
pow-lt r (suc i) fits = xtime-lt r (pow r i) fits

pub pow-add : (r i j : ℕ) → r < 256 → pow r (i + j) ≡ mul r (pow r i) (pow r j)
unfolding pow
pow-add r zero j fits = ap (pow r) (zero-add j) ∙ sym (mul-one-l r (pow r j) (pow-lt r j fits))
pow-add r (suc i) j fits =
    ap (pow r) (suc-add i j) ∙ ap (xtime r) (pow-add r i j fits) ∙ xtime-mul-l r (pow r i) (pow r j) fits

-- ---- the powers of any element

pub expt-lt : (r a n : ℕ) → r < 256 → expt r a n < 256
unfolding expt
expt-lt r a zero fits = omega arith
expt-lt r a (suc n) fits = mul-lt r a (expt r a n) fits

pub expt-one : (r a : ℕ) → a < 256 → expt r a 1 ≡ a
unfolding expt
expt-one r a h = mul-one-r r a h

pub expt-add : (r a i j : ℕ) → r < 256 → expt r a (i + j) ≡ mul r (expt r a i) (expt r a j)
unfolding expt
expt-add r a zero j fits = ap (expt r a) (zero-add j) ∙ sym (mul-one-l r (expt r a j) (expt-lt r a j fits))
expt-add r a (suc i) j fits =
    ap (expt r a) (suc-add i j) ∙ ap (mul r a) (expt-add r a i j fits) ∙ sym (mul_assoc r a (expt r a i) (expt r a j) fits)

pub expt-pow : (r i n : ℕ) → r < 256 → expt r (pow r i) n ≡ pow r (i * n)
unfolding expt
expt-pow r i zero fits = sym (ap (pow r) (mul-zero i) ∙ pow-zero r)
expt-pow r i (suc n) fits =
    ap (mul r (pow r i)) (expt-pow r i n fits) ∙ sym (pow-add r i (i * n) fits) ∙ ap (pow r) (omega (arith, mul-suc i n))

pub inverse-lt : (r a : ℕ) → r < 256 → inverse r a < 256
unfolding inverse
inverse-lt r a fits = expt-lt r a 254 fits

pub inverse-zero : (r : ℕ) → inverse r 0 ≡ 0
unfolding inverse expt
inverse-zero r = mul-zero-l r (expt r 0 253)

-- ---- where α is primitive

pub pow-period : (r i : ℕ) → Primitive r → pow r (i + 255) ≡ pow r i
pow-period r i p =
    pow-add r i 255 p.fits ∙ ap (mul r (pow r i)) p.period ∙ mul-one-r r (pow r i) (pow-lt r i p.fits)

pow_multiple : (r i : ℕ) → Primitive r → pow r (i * 255) ≡ 1
pow_multiple r zero p = ap (pow r) (zero-mul 255) ∙ pow-zero r
pow_multiple r (suc i) p = ap (pow r) (suc-mul i 255) ∙ pow-period r (i * 255) p ∙ pow_multiple r i p

pub pow-nonzero-any : (r i : ℕ) → Primitive r → pow r i ≢ 0
pow-nonzero-any r i p h =
    let split : i * 255 ≡ i + i * 254 = omega arith in
    let one-zero : ◌≡◌ {A = ℕ} 1 0 =
    sym (pow_multiple r i p) ∙ ap (pow r) split ∙ pow-add r i (i * 254) p.fits ∙ ap (λ (x : ℕ). mul r x (pow r (i * 254))) h ∙ mul-zero-l r _
    in
    omega arith

pub pow-different : (r i j : ℕ) → Primitive r → i < 255 → j < 255 → i ≢ j → add (pow r i) (pow r j) ≢ 0
pow-different r i j p hi hj ne h = ne (p.different i j hi hj (add-eq-zero (pow r i) (pow r j) h))

pub mul-inverse : (r a : ℕ) → Primitive r → a < 256 → a ≢ 0 → mul r a (inverse r a) ≡ 1
unfolding inverse expt
mul-inverse r a p ha ne =
    let (i, hi, e) = p.every a ha ne in
    ap (λ (x : ℕ). expt r x 255) (sym e) ∙ expt-pow r i 255 p.fits ∙ pow_multiple r i p

pub inverse-mul : (r a : ℕ) → Primitive r → a < 256 → a ≢ 0 → mul r (inverse r a) a ≡ 1
inverse-mul r a p ha ne = mul_comm r (inverse r a) a ∙ mul-inverse r a p ha ne

pub inverse-cancel : (r a b : ℕ) → Primitive r → a < 256 → b < 256 → a ≢ 0 → mul r (inverse r a) (mul r a b) ≡ b
inverse-cancel r a b p ha hb ne =
    sym (mul_assoc r (inverse r a) a b p.fits) ∙ ap (λ (x : ℕ). mul r x b) (inverse-mul r a p ha ne) ∙ mul-one-l r b hb

pub mul-cancel : (r a b c : ℕ) → Primitive r → a < 256 → b < 256 → c < 256 → mul r a b ≡ mul r a c → a ≢ 0 → b ≡ c
mul-cancel r a b c p ha hb hc h ne =
    sym (inverse-cancel r a b p ha hb ne) ∙ ap (mul r (inverse r a)) h ∙ inverse-cancel r a c p ha hc ne

pub mul-eq-zero : (r a b : ℕ) → Primitive r → a < 256 → b < 256 → mul r a b ≡ 0 → a ≢ 0 → b ≡ 0
mul-eq-zero r a b p ha hb h ne = mul-cancel r a b 0 p ha hb (omega arith) (h ∙ sym (mul-zero-r r a)) ne
