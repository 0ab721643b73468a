-- What stands at a place of a text: characters, and one thing behind another. If two things are found one behind the other, the pair is
-- found; if one of them never stands there, no pair does.
use mathlib.Core.Path.{◌≡◌, sym, ap, ◌∙◌}
use mathlib.Core.List.{List, [], ◌∷◌, ◌++◌, append_assoc, append_cancel_left}
use Prim.Native.Nat.{ℕ, suc, ◌+◌, ◌≤◌, ◌<◌}
use native.Mathlib.Numerals.{add-one}
use native.Mathlib.Omega.{arith}
use lib.ListN.{length, get_or, drop, length-append, length-drop, get_or-append}
use lib.Seq.{drop-cons, get_or-drop, drop-drop, drop-append_seam}
use Rattle.text.specs.Inner.Numbers.{Found, Never}

pub cons-path : {x y : ℕ} {xs ys : List ℕ} → x ≡ y → xs ≡ ys → x ∷ xs ≡ y ∷ ys
cons-path p q = λ i. p i ∷ q i

module _ (t : List ℕ) where
  pub drop-one : (at : ℕ) → at < length t → drop at t ≡ get_or t at 0 ∷ drop (at + 1) t
  drop-one at l = rw (add-one, drop-cons t at 0)

  -- the first character from a place on
  pub drop_head : (at : ℕ) → get_or (drop at t) 0 0 ≡ get_or t at 0
  drop_head at = get_or-drop at t 0 0 ∙ ap (λ (n : ℕ). get_or t n 0) (omega arith)

  pub drop_at : (m n : ℕ) → m ≡ n → drop m t ≡ drop n t
  drop_at m n e = ap (λ (k : ℕ). drop k t) e

  pub get_or-place : (m n : ℕ) → m ≡ n → get_or t m 0 ≡ get_or t n 0
  get_or-place m n e = ap (λ (k : ℕ). get_or t k 0) e

  -- characters that agree one by one stand there
  pub stands_by : (s : List ℕ) (at : ℕ) → at + length s ≤ length t → ((i : ℕ) → i < length s → get_or t (at + i) 0 ≡ get_or s i 0)
      → drop at t ≡ s ++ drop (at + length s) t
  stands_by [] at l h = drop_at at (at + 0) (omega arith)
  stands_by (c ∷ cs) at l h =
      let rest : drop (at + 1) t ≡ cs ++ drop (at + 1 + length cs) t
      = stands_by cs (at + 1) (omega arith) (λ (i : ℕ) k. get_or-place (at + 1 + i) (at + suc i) (omega arith) ∙ h (suc i) (omega arith)) in
      drop-one at (omega arith)
      ∙ cons-path (get_or-place at (at + 0) (omega arith) ∙ h 0 (omega arith))
      (rest ∙ ap (λ (r : List ℕ). cs ++ r) (drop_at (at + 1 + length cs) (at + suc (length cs)) (omega arith)))

  -- what stands at a place lies in the text, and the rest is behind it
  module _ (s : List ℕ) (at : ℕ) (rest : List ℕ) (e : drop at t ≡ s ++ rest) where
    pub stands-inside : at ≤ length t → at + length s ≤ length t
    stands-inside l = omega (arith, ap length e, length-drop at t, length-append s rest)

    pub stands-rest : rest ≡ drop (at + length s) t
    stands-rest = sym (drop-append_seam s rest) ∙ (ap (drop (length s)) (sym e) ∙ drop-drop (length s) at t)

    pub stands_char : (i : ℕ) → i < length s → get_or t (at + i) 0 ≡ get_or s i 0
    stands_char i l = sym (get_or-drop at t i 0) ∙ (ap (λ (r : List ℕ). get_or r i 0) e ∙ get_or-append s rest 0 i l)

  -- where it ends
  pub stands-end : (s : List ℕ) (at end : ℕ) → at ≤ end → end ≤ length t → drop at t ≡ s ++ drop end t → end ≡ at + length s
  stands-end s at end l h e =
      omega (arith, ap length e, length-append s (drop end t), length-drop at t, length-drop end t)

-- ---- one behind the other

-- what follows the thing that was found stands from its end on
pub found-behind : {A : Type 0} (p : A → List ℕ) (G : A → Type 0) (R : List ℕ → Type 0) (t : List ℕ) (at : ℕ) (x a : A) (end : ℕ) (rest : List ℕ)
    → Found p G R t at x end → a ≡ x → drop at t ≡ p a ++ rest → drop end t ≡ rest
found-behind {A} p G R t at x a end rest f u e =
    append_cancel_left (p x) (drop end t) rest (sym f.stands ∙ (e ∙ ap (λ (z : A). p z ++ rest) u))

module _ {A B : Type 0} (p : A → List ℕ) (q : B → List ℕ) (G : A → Type 0) (H : B → Type 0) (R S : List ℕ → Type 0)
    (ends : (b : B) (rest : List ℕ) → R (q b ++ rest)) (t : List ℕ) (at : ℕ) where
  first-only : (x a : A) (b : B) (mid : ℕ) (rest : List ℕ) → Found p G R t at x mid → G a → drop at t ≡ (p a ++ q b) ++ rest
      → (a ≡ x) × (drop mid t ≡ q b ++ rest)
  first-only x a b mid rest f g e =
      let e' = e ∙ append_assoc (p a) (q b) rest in
      let u = f.only a (q b ++ rest) g (ends b rest) e' in
      (u, found-behind p G R t at x a mid (q b ++ rest) f u e')

  pub then_found : (x : A) (y : B) (mid end : ℕ) → Found p G R t at x mid → Found q H S t mid y end
      → Found {A = A × B} (λ z. p z.0 ++ q z.1) (λ z. G z.0 × H z.1) S t at (x, y) end
  then_found x y mid end f g =
      let fl = f.low in
      let gl = g.low in
      record {
        good = (f.good, g.good);
        low = omega arith;
        inside = g.inside;
        stands = f.stands ∙ (ap (λ (r : List ℕ). p x ++ r) g.stands ∙ sym (append_assoc (p x) (q y) (drop end t)));
        only = λ (z : A × B) (rest : List ℕ) good s e.
            let (u, k) = first-only x z.0 z.1 mid rest f good.0 e in
            let v = g.only z.1 rest good.1 s k in
            λ i. (u i, v i);
      }

  pub first-never : Never p G R t at → Never {A = A × B} (λ z. p z.0 ++ q z.1) (λ z. G z.0 × H z.1) S t at
  first-never never z rest good s e =
      never z.0 (q z.1 ++ rest) good.0 (ends z.1 rest) (e ∙ append_assoc (p z.0) (q z.1) rest)

  pub second-never : (x : A) (mid : ℕ) → Found p G R t at x mid → Never q H S t mid
      → Never {A = A × B} (λ z. p z.0 ++ q z.1) (λ z. G z.0 × H z.1) S t at
  second-never x mid f never z rest good s e =
      never z.1 rest good.1 s (first-only x z.0 z.1 mid rest f good.0 e).1
