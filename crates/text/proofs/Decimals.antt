-- The digits of a number. `Dec n ds` builds them from the first on; a number has one list of digits, its digits give it back, none of them
-- but a 0 alone begins with 0. So of two decimals that begin one text, with no digit behind the first, the second begins the first.
use mathlib.Core.Path.{◌≡◌, refl, sym, ap, ◌∙◌}
use mathlib.Core.Bool.{Bool, true, false, cond}
use mathlib.Core.Logic.{◌⊎◌, inl, inr}
use mathlib.Core.List.{List, [], ◌∷◌, ◌++◌, append-nil}
use Prim.Native.Nat.{ℕ, zero, suc, ◌+◌, ◌-◌, ◌*◌, ◌/◌, ◌%◌, ◌^◌, ◌≤◌, ◌<◌}
use native.Mathlib.Nat.{pow-suc}
use native.Mathlib.Omega.{arith}
use lib.Dec.{ltb}
use lib.ListN.{length, get_or, drop, length-append, get_or-append}
use borrow.Author.Tests.{lt-ltb, ltb-true, ltb-false}
use Rattle.printing.specs.Text.{decimal_in, decimal}
use Rattle.text.specs.Inner.Numbers.{NoDigit}
use Rattle.text.proofs.Standing.{cons-path}

pub data Dec : ℕ → List ℕ → Type 0 where
  one : (d : ℕ) → d < 10 → Dec d ((48 + d) ∷ [])
  longer : (n v d : ℕ) (ds : List ℕ) → n ≡ v * 10 + d → 0 < v → d < 10 → Dec v ds → Dec n (ds ++ ((48 + d) ∷ []))

dec-in : (m n : ℕ) → n < 10 ^ suc m → Dec n (decimal_in (suc m) n)
unfolding decimal_in
dec-in zero n h = rw (lt-ltb n 10 h) (one n h)
dec-in (suc m) n h = by_size (ltb n 10) refl (λ (l : 10 ≤ n). dec-in m (n / 10) (omega (arith, pow-suc 10 (suc m))))
  where
    by_size : (t : Bool) → ltb n 10 ≡ t → (10 ≤ n → Dec (n / 10) (decimal_in (suc m) (n / 10)))
        → Dec n (cond t ((48 + n) ∷ []) (decimal_in (suc m) (n / 10) ++ ((48 + n % 10) ∷ [])))
    by_size true e high = one n (ltb-true n 10 e)
    by_size false e high =
        let l = ltb-false n 10 e in
        longer n (n / 10) (n % 10) _ (omega arith) (omega arith) (omega arith) (high l)

pub dec-decimal : (n : ℕ) → n < 100000 → Dec n (decimal n)
unfolding decimal
dec-decimal n h = dec-in 19 n (omega arith)

-- a number has one list of digits
pub dec-list : {n m : ℕ} {ds es : List ℕ} → n ≡ m → Dec n ds → Dec m es → ds ≡ es
dec-list e (one d l) (one d' l') = rw e
dec-list e (one d l) (longer m v' d' es f p q r) = absurd (omega arith)
dec-list e (longer n v d ds f p q r) (one d' l') = absurd (omega arith)
dec-list e (longer n v d ds f p q r) (longer m v' d' es f' p' q' r') =
    let low : d ≡ d' = omega arith in
    let high : v ≡ v' = omega arith in
    rw (low, dec-list high r r')

-- digits give their number back
unfoldable pub value : ℕ → List ℕ → ℕ
value n [] = n
value n (c ∷ cs) = value (n * 10 + (c - 48)) cs

value-append : (n : ℕ) (xs ys : List ℕ) → value n (xs ++ ys) ≡ value (value n xs) ys
unfolding value
value-append n [] ys = refl
value-append n (x ∷ xs) ys = value-append (n * 10 + (x - 48)) xs ys

value-least : (n : ℕ) (cs : List ℕ) → n ≤ value n cs
unfolding value
value-least n [] = omega arith
value-least n (c ∷ cs) = omega (arith, value-least (n * 10 + (c - 48)) cs)

dec-value : {n : ℕ} {ds : List ℕ} → Dec n ds → value 0 ds ≡ n
unfolding value
dec-value (one d l) = omega arith
dec-value (longer n v d ds f p q r) = rw (value-append 0 ds ((48 + d) ∷ []), dec-value r) (omega arith)

pub dec-number : {n m : ℕ} {ds es : List ℕ} → Dec n ds → Dec m es → ds ≡ es → n ≡ m
dec-number r s e = sym (dec-value r) ∙ (ap (value 0) e ∙ dec-value s)

-- with more digits behind it a number is at least ten times as large
dec-longer : {n m : ℕ} {ds : List ℕ} (c : ℕ) (cs : List ℕ) → Dec n ds → Dec m (ds ++ (c ∷ cs)) → n * 10 ≤ m
unfolding value
dec-longer {n} {m} {ds} c cs r s =
    let e : value (value 0 ds) (c ∷ cs) ≡ m = sym (value-append 0 ds (c ∷ cs)) ∙ dec-value s in
    let f : value (n * 10 + (c - 48)) cs ≡ m = rw (dec-value r) at e in
    omega (arith, value-least (n * 10 + (c - 48)) cs)

-- every character is a digit
unfoldable pub Digits : List ℕ → Type 0
Digits [] = Unit
Digits (c ∷ cs) = (48 ≤ c) × (c < 58) × Digits cs

digits_more : (ds : List ℕ) (d : ℕ) → d < 10 → Digits ds → Digits (ds ++ ((48 + d) ∷ []))
unfolding Digits
digits_more [] d l h = (omega arith, omega arith, tt)
digits_more (c ∷ cs) d l h = (h.0, h.1, digits_more cs d l h.2)

pub dec-digits : {n : ℕ} {ds : List ℕ} → Dec n ds → Digits ds
unfolding Digits
dec-digits (one d l) = (omega arith, omega arith, tt)
dec-digits (longer n v d ds f p q r) = digits_more ds d q (dec-digits r)

pub dec_some : {n : ℕ} {ds : List ℕ} → Dec n ds → 0 < length ds
dec_some (one d l) = omega arith
dec_some (longer n v d ds f p q r) = omega (arith, length-append ds ((48 + d) ∷ []))

dec-head : {n : ℕ} {ds : List ℕ} → Dec n ds → 0 < n → 48 < get_or ds 0 0
dec-head (one d l) h = omega arith
dec-head (longer n v d ds f p q r) h = rw (get_or-append ds ((48 + d) ∷ []) 0 0 (dec_some r)) (dec-head r p)

-- behind a 0 at the start no digit follows
dec-zero : (n c : ℕ) (cs : List ℕ) → Dec n (48 ∷ c ∷ cs) → ⊥
dec-zero zero c cs r = let e = ap length (dec-list refl r (one 0 (omega arith))) in omega arith
dec-zero (suc n) c cs r = let h = dec-head r (omega arith) in omega arith

-- two decimals at the start of one text, with no digit behind the first: the second begins the first
digits-split : (xs ys more rest : List ℕ) → Digits ys → NoDigit more → xs ++ more ≡ ys ++ rest
    → (zs : List ℕ) × (xs ≡ ys ++ zs) × (rest ≡ zs ++ more)
unfolding Digits
digits-split xs [] more rest d h e = (xs, refl, sym e)
digits-split [] (y ∷ ys) more rest d h e =
    let f : get_or more 0 0 ≡ y = ap (λ (l : List ℕ). get_or l 0 0) e in
    absurd (omega (arith, h (omega (arith, d.0)), d.1))
digits-split (x ∷ xs) (y ∷ ys) more rest d h e =
    let (zs, g, k) = digits-split xs ys more rest d.2 h (ap (drop 1) e) in
    (zs, cons-path (ap (λ (l : List ℕ). get_or l 0 0) e) g, k)

digits-behind : (xs ys : List ℕ) → Digits (xs ++ ys) → Digits ys
unfolding Digits
digits-behind [] ys h = h
digits-behind (x ∷ xs) ys h = digits-behind xs ys h.2

never-digit : (c : ℕ) (cs more : List ℕ) → Digits (c ∷ cs) → NoDigit (c ∷ (cs ++ more)) → ⊥
unfolding Digits
never-digit c cs more d k = omega (arith, k d.0, d.1)

-- why reading a number ends
abbrev pub Ended : ℕ → List ℕ → Type 0
Ended v rest = NoDigit rest ⊎ ((10000 ≤ v) ⊎ (v ≡ 0))

-- the digits ds of v could go on by the digits of n
longer-never : (n v c : ℕ) (cs ds more : List ℕ) → n < 100000 → Dec v ds → Dec n (ds ++ (c ∷ cs)) → Ended v ((c ∷ cs) ++ more) → ⊥
unfolding Digits
longer-never n v c cs ds more l r s (inl h) =
    let d = digits-behind ds (c ∷ cs) (dec-digits s) in
    omega (arith, h d.0, d.1)
longer-never n v c cs ds more l r s (inr (inl h)) = omega (arith, dec-longer c cs r s)
longer-never n v c cs ds more l r s (inr (inr h)) =
    let e : ds ≡ 48 ∷ [] = dec-list h r (one 0 (omega arith)) in
    dec-zero n c cs (rw e at s)

-- a number that was read to its end is the only one that begins the text
pub number-only : (v : ℕ) (ds rest : List ℕ) → Dec v ds → Ended v rest → (n : ℕ) (more : List ℕ) → n < 100000 → NoDigit more
    → ds ++ rest ≡ decimal n ++ more → n ≡ v
number-only v ds rest r ends n more l h e = by-rest (digits-split (decimal n) ds more rest (dec-digits r) h (sym e))
  where
    by-rest : (zs : List ℕ) × (decimal n ≡ ds ++ zs) × (rest ≡ zs ++ more) → n ≡ v
    by-rest ([], g, k) = dec-number (dec-decimal n l) r (g ∙ append-nil ds)
    by-rest (c ∷ cs, g, k) = absurd (longer-never n v c cs ds more l r (rw g at (dec-decimal n l)) (rw k at ends))

-- where no digit stands no number does
pub number-never : (r : List ℕ) → NoDigit r → (n : ℕ) (more : List ℕ) → n < 100000 → r ≡ decimal n ++ more → ⊥
number-never r h n more l e = by_digits (decimal n) (dec-digits (dec-decimal n l)) (dec_some (dec-decimal n l)) (rw e at h)
  where
    by_digits : (ds : List ℕ) → Digits ds → 0 < length ds → NoDigit (ds ++ more) → ⊥
    by_digits [] d s k = omega arith
    by_digits (c ∷ cs) d s k = never-digit c cs more d k
