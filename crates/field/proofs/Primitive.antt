-- A computed test that α is primitive, and its run on the field's reduction byte: the powers 0 to 254 of α hold every nonzero byte, no
-- power from 1 to 254 is 1, and the 255th is. The other properties follow by the laws of powers.
use mathlib.Core.Path.{◌≡◌, refl, sym, ap, ◌∙◌}
use mathlib.Core.Logic.{◌≢◌, ◌⊎◌, inl, inr, ⊎_elim}
use mathlib.Core.Bool.{Bool, true, false, ◌&&◌, ◌||◌, true≢false, false≢true}
use mathlib.Core.List.{List, [], ◌∷◌}
use Prim.Native.Nat.{ℕ, zero, suc, ◌+◌, ◌-◌, ◌<◌}
use native.Mathlib.Nat.{add-zero, zero-add}
use native.Mathlib.Decide.{ℕ_discrete, dec_lt}
use native.Mathlib.Omega.{arith}
use lib.Dec.{eqb}
use borrow.Author.Tests.{eqb-true, eq-eqb}
use Rattle.field.specs.Field.{add, reduction, xtime, mul, pow, Primitive}
use Rattle.field.proofs.Multiplication.{mul-one-l, mul-zero-l}
use Rattle.field.proofs.Power.{pow-lt, pow-add}

-- x and the n - 1 elements that follow it by products with α
orbit : ℕ → ℕ → ℕ → List ℕ
orbit r zero x = []
orbit r (suc n) x = x ∷ orbit r n (xtime r x)

member : ℕ → List ℕ → Bool
member a [] = false
member a (x ∷ xs) = eqb x a || member a xs

-- all of 1 to n are in the list
covers : ℕ → List ℕ → Bool
covers zero xs = true
covers (suc n) xs = member (suc n) xs && covers n xs

record Test (r : ℕ) : Type 0 where
  period : pow r 255 ≡ 1
  shorter : member 1 (orbit r 254 (xtime r 1)) ≡ false
  every : covers 255 (orbit r 255 1) ≡ true

or_cases : (b c : Bool) → (b || c) ≡ true → (b ≡ true) ⊎ (c ≡ true)
or_cases true c h = inl refl
or_cases false c h = inr h

or-true : (b : Bool) → (b || true) ≡ true
or-true true = refl
or-true false = refl

and_parts : (b c : Bool) → (b && c) ≡ true → (b ≡ true) × (c ≡ true)
and_parts true c h = (refl, h)
and_parts false c h = absurd (false≢true h)

shift : (k i : ℕ) → k + suc i ≡ suc k + i
shift k i = omega arith

member-pow : (r a n k : ℕ) → member a (orbit r n (pow r k)) ≡ true → (i : ℕ) × (i < n) × (pow r (k + i) ≡ a)
unfolding member orbit pow
member-pow r a zero k h = absurd (false≢true h)
member-pow r a (suc n) k h =
    ⊎_elim (λ e. (0, omega arith, ap (pow r) (add-zero k) ∙ eqb-true (pow r k) a e))
    (λ g. let (i, l, e) = member-pow r a n (suc k) g in (suc i, omega arith, ap (pow r) (shift k i) ∙ e))
    (or_cases (eqb (pow r k) a) (member a (orbit r n (pow r (suc k)))) h)

pow-member : (r a n k i : ℕ) → i < n → pow r (k + i) ≡ a → member a (orbit r n (pow r k)) ≡ true
unfolding member orbit pow
pow-member r a zero k i h e = absurd (omega arith)
pow-member r a (suc n) k zero h e = rw (eq-eqb (pow r k) a (ap (pow r) (sym (add-zero k)) ∙ e))
pow-member r a (suc n) k (suc i) h e = rw (pow-member r a n (suc k) i (omega arith) (ap (pow r) (sym (shift k i)) ∙ e)) (or-true (eqb (pow r k) a))

covers-member : (n a : ℕ) (xs : List ℕ) → covers n xs ≡ true → a < n → member (suc a) xs ≡ true
unfolding covers
covers-member zero a xs h l = absurd (omega arith)
covers-member (suc n) a xs h l =
    let (now, rest) = and_parts (member (suc n) xs) (covers n xs) h in
    elim (ℕ_discrete a n) [ yes e ↦ rw e now | no ne ↦ covers-member n a xs rest (omega arith) ]

module _ (r : ℕ) (fits : r < 256) (t : Test r) where
  -- a power and the rest of the period
  pow-rest : (i j : ℕ) → i + j ≡ 255 → mul r (pow r i) (pow r j) ≡ 1
  pow-rest i j e = sym (pow-add r i j fits) ∙ ap (pow r) e ∙ t.period

  nonzero : (i : ℕ) → i < 255 → pow r i ≢ 0
  nonzero i h e =
      let one-zero : ◌≡◌ {A = ℕ} 1 0 =
      sym (pow-rest i (255 - i) (omega arith)) ∙ ap (λ (x : ℕ). mul r x (pow r (255 - i))) e ∙ mul-zero-l r _
      in
      omega arith

  pow-not-one : (k : ℕ) → k < 254 → pow r (1 + k) ≢ 1
  unfolding pow
  pow-not-one k h e = true≢false (sym (pow-member r 1 254 1 k h e) ∙ t.shorter)

  less-different : (i j : ℕ) → i < j → j < 255 → pow r i ≢ pow r j
  less-different i j l h e =
      pow-not-one (j - i - 1) (omega arith)
      (sym (mul-one-l r _ (pow-lt r _ fits)) ∙ ap (λ (x : ℕ). mul r x (pow r (1 + (j - i - 1)))) (sym t.period)
      ∙ sym (pow-add r 255 _ fits) ∙ ap (pow r) (omega arith) ∙ pow-add r (255 - i) j fits ∙ ap (mul r (pow r (255 - i))) (sym e)
      ∙ pow-rest (255 - i) i (omega arith))

  different : (i j : ℕ) → i < 255 → j < 255 → pow r i ≡ pow r j → i ≡ j
  different i j hi hj e =
      elim (dec_lt i j) [
        | yes l ↦ absurd (less-different i j l hj e)
        | no m ↦ elim (dec_lt j i) [ yes l ↦ absurd (less-different j i l hi (sym e)) | no n ↦ omega arith ]
      ]

  every : (a : ℕ) → a < 256 → a ≢ 0 → (i : ℕ) × (i < 255) × (pow r i ≡ a)
  unfolding pow
  every zero h ne = absurd (ne refl)
  every (suc a) h ne =
      let (i, l, e) = member-pow r (suc a) 255 0 (covers-member 255 a (orbit r 255 1) t.every (omega arith)) in
      (i, l, ap (pow r) (sym (zero-add i)) ∙ e)

  primitive-test : Primitive r
  primitive-test = record { fits = fits; nonzero = nonzero; different = different; every = every; period = t.period }

-- "its powers 0 to 254 are the 255 nonzero bytes"
pub primitive : Primitive reduction
unfolding pow member orbit covers xtime add reduction
primitive = primitive-test reduction (omega arith) (record { period = refl; shorter = refl; every = refl })
