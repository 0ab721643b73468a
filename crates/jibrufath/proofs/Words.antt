-- Words of 64 bits: a word gives back the number and what comes with it, and two values of the table with one word are one value.
use mathlib.Core.Path.{◌≡◌, refl, sym, ap, ◌∙◌}
use Prim.Native.Nat.{ℕ, ◌+◌, ◌*◌, ◌/◌, ◌%◌, ◌^◌, ◌<◌}
use native.Mathlib.Omega.{arith}
use Rattle.answer.specs.declared.Refusal.{Refusal}
use Rattle.answer.specs.declared.Refusal.TheVariants.{Plain, Packet, Line, Entry}
use Rattle.answer.specs.Values.{Value, gives, Checked, passes, fails, checked, refusal, number_of, place_of}
use Rattle.answer.proofs.Values.{refusal-gives}
use Rattle.jibrufath.specs.Exports.{beside, packed}

-- a refusal has one number and one place, whatever the call's result would be
pub refusal-number : (A : Type 0) (f : Refusal) → number_of {A = A} (refusal f) ≡ number_of {A = Unit} (refusal f)
unfolding number_of refusal
refusal-number A (Plain f) = refl
refusal-number A (Packet f i) = refl
refusal-number A (Line n) = refl
refusal-number A (Entry n) = refl

pub refusal-beside : {A : Type 0} (count : A → ℕ) (f : Refusal) → beside count (refusal f) ≡ place_of {A = Unit} (refusal f)
unfolding beside place_of refusal
refusal-beside count (Plain f) = refl
refusal-beside count (Packet f i) = refl
refusal-beside count (Line n) = refl
refusal-beside count (Entry n) = refl

module _ {A : Type 0} (count : A → ℕ) (v : Value A) where
  -- a word of 64 bits holds the value where what comes with the number is below 2^56
  pub packed-fits : number_of v < 256 → beside count v < 2 ^ 56 → packed count v < 2 ^ 64
  unfolding packed
  packed-fits n b = omega arith

  -- the low byte is the number
  pub packed-number : number_of v < 256 → packed count v % 256 ≡ number_of v
  unfolding packed
  packed-number n = omega arith

  -- above it stands what comes with it
  pub packed-beside : number_of v < 256 → packed count v / 256 ≡ beside count v
  unfolding packed
  packed-beside n = omega arith

  -- where nothing comes with it, the word is the number
  pub packed-alone : beside count v ≡ 0 → packed count v ≡ number_of v
  unfolding packed
  packed-alone e = rw e (omega arith)

  -- a result: 256 times its count
  pub packed-result : (a : A) → v ≡ gives a → packed count v ≡ 256 * count a
  unfolding packed beside number_of
  packed-result a e = rw e (omega arith)

  -- a refusal that names no place: its number
  pub packed-refusal : (f : Refusal) → v ≡ refusal f → beside count v ≡ 0 → packed count v ≡ number_of {A = Unit} (refusal f)
  packed-refusal f e b = packed-alone b ∙ ap number_of e ∙ refusal-number A f

-- ---- the words of refusals

module _ {A : Type 0} (count : A → ℕ) (v : Value A) (f : Refusal) (e : v ≡ refusal f) where
  pub refused-place : beside count v < 2 ^ 45 → place_of {A = Unit} (refusal f) < 2 ^ 45
  refused-place l = rw (refusal-beside count f) at (rw e at l)

  pub refused-packed : (word : ℕ) → word ≡ number_of {A = Unit} (refusal f) + 256 * place_of {A = Unit} (refusal f) → word ≡ packed count v
  unfolding packed
  refused-packed word q = rw (e, refusal-number A f, refusal-beside count f) q

-- ---- the words of calls that only check: no check names a place

module _ {A : Type 0} (count : A → ℕ) where
  checked-beside : (c : Checked A) (f : Refusal) → refusal f ≡ checked c → beside count (checked c) ≡ 0
  unfolding checked beside
  checked-beside (passes a) f e = absurd (refusal-gives f a e)
  checked-beside (fails n) f e = refl

  pub checked-refusal : (c : Checked A) (f : Refusal) (n : ℕ) → refusal f ≡ checked c → n ≡ number_of {A = Unit} (refusal f) → n ≡ packed count (checked c)
  checked-refusal c f n e k = k ∙ sym (packed-refusal count (checked c) f (sym e) (checked-beside c f e))

  pub checked-result : (c : Checked A) (a : A) → c ≡ passes a → 256 * count a ≡ packed count (checked c)
  unfolding checked
  checked-result c a e = sym (packed-result count (checked c) a (rw e))

  -- what stands above the number of a check is below what every result counts below
  pub checked-below : (c : Checked A) (b : ℕ) → 0 < b → ((a : A) → c ≡ passes a → count a < b) → beside count (checked c) < b
  unfolding checked beside
  checked-below (passes a) b z h = h a refl
  checked-below (fails n) b z h = z
