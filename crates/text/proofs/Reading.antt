-- A number that is read digit by digit.
use Rattle.std.specs.Prelude.{Option, Some, None}
use mathlib.Core.Path.{◌≡◌, refl, sym, ap, ◌∙◌}
use mathlib.Core.Logic.{inr}
use mathlib.Core.List.{List, [], ◌∷◌, ◌++◌, append_assoc}
use Prim.Native.Nat.{ℕ, ◌+◌, ◌*◌, ◌≤◌, ◌<◌}
use native.Mathlib.Omega.{arith}
use lib.ListN.{length, drop}
use Rattle.printing.specs.Text.{decimal}
use Rattle.text.specs.Inner.Numbers.{NoDigit, DigitOutcome, digit_found, digit_nothing, NumberOutcome, number_found, number_nothing}
use Rattle.text.proofs.Decimals.{Dec, one, longer, Ended, dec-decimal, dec-list, number-only, number-never}

-- the digits from `at` to `end` are those of v, which is no 0
pub record Reading (t : List ℕ) (at end v : ℕ) : Type 0 where
  pub digits : List ℕ
  pub dec : Dec v digits
  pub positive : 0 < v
  pub short : v < 100000
  pub low : at ≤ end
  pub inside : end ≤ length t
  pub stands : drop at t ≡ digits ++ drop end t

-- ---- what a digit's answer tells

abbrev pub DigitStands : List ℕ → ℕ → ℕ → Type 0
DigitStands t at d = (d ≤ 9) × (at < length t) × (drop at t ≡ (48 + d) ∷ drop (at + 1) t)

pub digit-some : {t : List ℕ} {at : ℕ} (r : Option ℕ) (d : ℕ) → DigitOutcome t at r → r ≡ Some d → DigitStands t at d
digit-some _ d (digit_found d' l i s) e = let same : d' ≡ d = cc in rw (← same) (l, i, s)
digit-some _ d (digit_nothing n) e = let z : ◌≡◌ {A = ℕ} 0 1 = cc in absurd (omega arith)

pub digit-none : {t : List ℕ} {at : ℕ} (r : Option ℕ) → DigitOutcome t at r → r ≡ None → NoDigit (drop at t)
digit-none _ (digit_found d l i s) e = let z : ◌≡◌ {A = ℕ} 0 1 = cc in absurd (omega arith)
digit-none _ (digit_nothing n) e = n

-- ---- a number

module _ (t : List ℕ) (at : ℕ) where
  pub reading-first : (d : ℕ) → DigitStands t at d → 0 < d → Reading t at (at + 1) d
  reading-first d o p =
      let (l, i, e) = o in
      record { digits = (48 + d) ∷ []; dec = one d (omega arith); positive = p; short = omega arith; low = omega arith; inside = omega arith; stands = e }

  pub reading-more : (end v d : ℕ) → Reading t at end v → v < 10000 → DigitStands t end d → Reading t at (end + 1) (v * 10 + d)
  reading-more end v d r s o =
      let (l, i, e) = o in
      let p = r.positive in
      let low = r.low in
      record {
        digits = r.digits ++ ((48 + d) ∷ []);
        dec = longer (v * 10 + d) v d r.digits refl p (omega arith) r.dec;
        positive = omega arith;
        short = omega arith;
        low = omega arith;
        inside = omega arith;
        stands = r.stands ∙ (ap (λ (l : List ℕ). r.digits ++ l) e ∙ sym (append_assoc r.digits ((48 + d) ∷ []) (drop (end + 1) t)));
      }

  found : (end v : ℕ) (ds : List ℕ) → v < 100000 → at ≤ end → end ≤ length t → Dec v ds → drop at t ≡ ds ++ drop end t → Ended v (drop end t)
      → NumberOutcome decimal t at (Some (v, end))
  found end v ds s low inside r e ended =
      number_found v end
      (record {
        good = s;
        low = low;
        inside = inside;
        stands = rw (dec-list refl r (dec-decimal v s)) at e;
        only = λ (n : ℕ) (rest : List ℕ) l h f. number-only v ds (drop end t) r ended n rest l h (sym e ∙ f);
      })

  pub reading-found : (end v : ℕ) → Reading t at end v → Ended v (drop end t) → NumberOutcome decimal t at (Some (v, end))
  reading-found end v r = found end v r.digits r.short r.low r.inside r.dec r.stands

  pub zero-found : (d : ℕ) → DigitStands t at d → d ≡ 0 → NumberOutcome decimal t at (Some (0, (at + 1)))
  zero-found d o z =
      let (l, i, e) = o in
      let f : drop at t ≡ 48 ∷ drop (at + 1) t = rw z at e in
      found (at + 1) 0 (48 ∷ []) (omega arith) (omega arith) (omega arith) (one 0 (omega arith)) f (inr (inr refl))

  pub nothing-found : NoDigit (drop at t) → NumberOutcome decimal t at None
  nothing-found none = number_nothing (λ (n : ℕ) (rest : List ℕ) s h e. number-never (drop at t) none n rest s e)
