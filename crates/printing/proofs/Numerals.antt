-- Numbers as digits: the digits that `io` gives are those of the definition, and there are at most 20.
use mathlib.Core.Path.{◌≡◌, refl}
use mathlib.Core.Bool.{Bool, true, false, cond}
use mathlib.Core.List.{List, [], ◌∷◌, ◌++◌}
use Prim.Native.Nat.{ℕ, zero, suc, ◌+◌, ◌-◌, ◌*◌, ◌/◌, ◌%◌, ◌^◌, ◌≤◌, ◌<◌}
use native.Mathlib.Nat.{mod-eq_of_lt, pow-suc, pow-le-pow_right}
use native.Mathlib.Omega.{arith}
use lib.Dec.{ltb}
use lib.ListN.{length, length-append}
use borrow.Author.Tests.{lt-ltb, le-ltb, ltb-true, ltb-false}
use Rattle.io.specs.Digits.{last_digits, IsDigitCount}
use Rattle.printing.specs.Text.{ascii, decimal_in, decimal, hex_digit, numbered, triple, number_line, shape_line, refused_line}

pub hex_digit-low : (d : ℕ) → d < 10 → 48 + d ≡ hex_digit d
unfolding hex_digit
hex_digit-low d h = rw (lt-ltb d 10 h)

pub hex_digit-high : (d : ℕ) → 10 ≤ d → 97 + (d - 10) ≡ hex_digit d
unfolding hex_digit
hex_digit-high d h = rw (le-ltb d 10 h) (omega arith)

ten-le-pow : (k : ℕ) → 10 ≤ 10 ^ suc k
ten-le-pow zero = omega arith
ten-le-pow (suc k) = let h = ten-le-pow k in omega (arith, pow-suc 10 (suc k))

-- a number that has its digits in so many places and no fewer
digits-decimal_in : (most k n : ℕ) → k < most → n < 10 ^ suc k → (1 < suc k → 10 ^ k ≤ n) → last_digits 10 (suc k) n ≡ decimal_in most n
unfolding decimal_in
digits-decimal_in zero k n h small large = elim h [ ]
digits-decimal_in (suc most) zero n h small large = rw (mod-eq_of_lt small, lt-ltb n 10 small)
digits-decimal_in (suc most) (suc k) n h small large =
    let high : 10 ^ suc k ≤ n = large (omega arith) in
    let low : n % 10 < 10 = omega arith in
    let rest : last_digits 10 (suc k) (n / 10) ≡ decimal_in most (n / 10)
    = digits-decimal_in most k (n / 10) (omega arith) (omega (arith, pow-suc 10 (suc k)))
    (λ (l : 1 < suc k). omega (arith, pow-suc 10 k)) in
    rw (rest, lt-ltb (n % 10) 10 low, le-ltb n 10 (omega (arith, ten-le-pow k)))

-- a number of 64 bits has at most 20 digits
places : (k n : ℕ) → n < 2 ^ 64 → (1 < suc k → 10 ^ k ≤ n) → k < 20
places k n h large = at_most (ltb k 20) refl
  where
    at_most : (t : Bool) → ltb k 20 ≡ t → k < 20
    at_most true e = ltb-true k 20 e
    at_most false e =
        let l = ltb-false k 20 e in
        let m : 10 ^ 20 ≤ 10 ^ k = pow-le-pow_right (omega arith) l in
        absurd (omega (arith, large (omega arith)))

pub digits_decimal : (k n : ℕ) → n < 2 ^ 64 → IsDigitCount 10 1 n k → last_digits 10 k n ≡ decimal n
unfolding decimal
digits_decimal zero n h f = absurd (omega (arith, f.0))
digits_decimal (suc k) n h f =
    let e : suc k - 1 ≡ k = omega arith in
    let large : 1 < suc k → 10 ^ k ≤ n = λ (l : 1 < suc k). rw e at (f.2 l) in
    digits-decimal_in 20 k n (places k n h large) f.1 large

-- how many digits a number has
length-digits : (most k n : ℕ) → k < most → n < 10 ^ suc k → (1 < suc k → 10 ^ k ≤ n) → length (decimal_in most n) ≡ suc k
unfolding decimal_in
length-digits zero k n h small large = elim h [ ]
length-digits (suc most) zero n h small large = rw (lt-ltb n 10 small)
length-digits (suc most) (suc k) n h small large =
    let high : 10 ^ suc k ≤ n = large (omega arith) in
    let rest : length (decimal_in most (n / 10)) ≡ suc k
    = length-digits most k (n / 10) (omega arith) (omega (arith, pow-suc 10 (suc k))) (λ (l : 1 < suc k). omega (arith, pow-suc 10 k)) in
    rw (le-ltb n 10 (omega (arith, ten-le-pow k))) (omega (arith, rest, length-append (decimal_in most (n / 10)) ((48 + n % 10) ∷ [])))

pub decimal-length : (k n : ℕ) → k < 20 → 10 ^ k ≤ n → n < 10 * 10 ^ k → length (decimal n) ≡ k + 1
unfolding decimal
decimal-length k n few low high = omega (arith, length-digits 20 k n few (omega (arith, pow-suc 10 k)) (λ (l : 1 < suc k). low))

pub zero-length : length (decimal 0) ≡ 1
unfolding decimal
zero-length = length-digits 20 0 0 (omega arith) (omega arith) (λ (l : 1 < 1). absurd (omega arith))

-- a number has at most so many digits
length-cond : (t : Bool) (x y : List ℕ) (n : ℕ) → length x ≤ n → length y ≤ n → length (cond t x y) ≤ n
length-cond true x y n h k = h
length-cond false x y n h k = k

length-decimal_in : (most n : ℕ) → length (decimal_in most n) ≤ most
unfolding decimal_in
length-decimal_in zero n = omega arith
length-decimal_in (suc most) n =
    let h = length-decimal_in most (n / 10) in
    let l = length-append (decimal_in most (n / 10)) ((48 + n % 10) ∷ []) in
    length-cond (ltb n 10) _ _ (suc most) (omega arith) (omega arith)

pub length-decimal : (n : ℕ) → length (decimal n) ≤ 20
unfolding decimal
length-decimal n = length-decimal_in 20 n

pub length-numbered : (label : List ℕ) (n : ℕ) → length (numbered label n) ≤ length label + 20
unfolding numbered
length-numbered label n = omega (arith, length-append label (decimal n), length-decimal n)

pub length-triple : (label : List ℕ) (a b c : ℕ) → length (triple label a b c) ≤ length label + 62
unfolding triple
length-triple label a b c =
    let space = ascii " " in
    omega
    (arith, length-append (numbered label a) (numbered space b ++ numbered space c), length-append (numbered space b) (numbered space c), length-numbered label a, length-numbered space b, length-numbered space c)

pub length-number_line : (label : List ℕ) (n : ℕ) → length (number_line label n) ≤ length label + 21
unfolding number_line
length-number_line label n = omega (arith, length-append (numbered label n) (ascii "\n"), length-numbered label n)

pub length-shape_line : (l1 l2 l3 w : ℕ) → length (shape_line l1 l2 l3 w) ≤ 90
unfolding shape_line
length-shape_line l1 l2 l3 w =
    let lengths = triple (ascii "shape ") l1 l2 l3 in
    omega
    (arith, length-append lengths (number_line (ascii " ") w), length-triple (ascii "shape ") l1 l2 l3, length-number_line (ascii " ") w)

pub length-refused_line : (n : ℕ) → length (refused_line n) ≤ 29
unfolding refused_line
length-refused_line n = length-number_line (ascii "refused ") n
