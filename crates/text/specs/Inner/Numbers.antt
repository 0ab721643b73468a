-- What stands at a place of a text, and what the functions of `numbers` answer.
use Rattle.std.specs.Prelude.{◌≡◌, List, ◌∷◌, ◌++◌, ℕ, ◌+◌, ◌≤◌, ◌<◌, length, get_or, drop, Option, Some, None}

-- no digit begins it
abbrev pub NoDigit : List ℕ → Type 0
NoDigit r = 48 ≤ get_or r 0 0 → 58 ≤ get_or r 0 0

-- The text from a place on begins with what x prints, up to `end`; and nothing else that is good, with a good rest behind it, begins it.
pub record Found {A : Type 0} (print : A → List ℕ) (Good : A → Type 0) (Rest : List ℕ → Type 0) (t : List ℕ) (at : ℕ) (x : A) (end : ℕ)
    : Type 0 where
  pub good : Good x
  pub low : at ≤ end
  pub inside : end ≤ length t
  pub stands : drop at t ≡ print x ++ drop end t
  pub only : (y : A) (rest : List ℕ) → Good y → Rest rest → drop at t ≡ print y ++ rest → y ≡ x

-- nothing that is good begins the text from a place on
abbrev pub Never : {A : Type 0} → (A → List ℕ) → (A → Type 0) → (List ℕ → Type 0) → List ℕ → ℕ → Type 0
Never {A} print Good Rest t at = (y : A) (rest : List ℕ) → Good y → Rest rest → drop at t ≡ print y ++ rest → ⊥

-- "decimals of one to five digits"
abbrev pub Short : ℕ → Type 0
Short n = n < 100000

-- Every number below 100,000 that stands there with no digit behind it is the one that was found. `print` is `decimal`, or that behind a
-- label.
pub data NumberOutcome (print : ℕ → List ℕ) (t : List ℕ) (at : ℕ) : Option (ℕ × ℕ) → Type 0 where
  number_found : (v end : ℕ) → Found print Short NoDigit t at v end → NumberOutcome print t at (Some (v, end))
  number_nothing : Never print Short NoDigit t at → NumberOutcome print t at None

pub data DigitOutcome (t : List ℕ) (at : ℕ) : Option ℕ → Type 0 where
  digit_found : (d : ℕ) → d ≤ 9 → at < length t → drop at t ≡ (48 + d) ∷ drop (at + 1) t → DigitOutcome t at (Some d)
  digit_nothing : NoDigit (drop at t) → DigitOutcome t at None
