-- Two strips of w bytes each that are written side by side, and which are either one strip or do not meet.
use mathlib.Core.Path.{◌≡◌, refl, ◌∙◌}
use mathlib.Core.List.{List}
use mathlib.Core.Logic.{◌⊎◌, ◌≢◌, inl, inr, ⊎_elim}
use Prim.Native.Nat.{ℕ, ◌+◌, ◌≤◌, ◌<◌}
use native.Mathlib.Decide.{ℕ_discrete}
use native.Mathlib.Omega.{arith}
use lib.ListN.{length, get_or, set, length-set}
use lib.Seq.{get_or-set_same, get_or-set_other}
use Rattle.field.specs.Field.{add}

-- t bytes of both strips are written, y at the strip from k on, and x + y at the strip from j on where that is another.
pub record Strips (j k w t : ℕ) (x y : ℕ → ℕ) (before after : List ℕ) : Type 0 where
  pub size : length after ≡ length before
  pub kept :
      (p : ℕ) → (p < j) ⊎ (j + t ≤ p) → (p < k) ⊎ (k + t ≤ p) → get_or after p 0 ≡ get_or before p 0
  pub later : (i : ℕ) → i < t → get_or after (k + i) 0 ≡ y i
  pub earlier : j + w ≤ k → (i : ℕ) → i < t → get_or after (j + i) 0 ≡ add (x i) (y i)

pub strips-none : (j k w : ℕ) (x y : ℕ → ℕ) (l : List ℕ) → Strips j k w 0 x y l l
strips-none j k w x y l =
    record {
      size = refl;
      kept = λ p a b. refl;
      later = λ i h. absurd (omega arith);
      earlier = λ a i h. absurd (omega arith);
    }

-- a byte after both writes of a turn
module _ (l : List ℕ) (a b v u : ℕ) (ha : a < length l) (hb : b < length l) where
  twice-other : (p : ℕ) → p ≢ a → p ≢ b → get_or (set (set l a v) b u) p 0 ≡ get_or l p 0
  twice-other p na nb = get_or-set_other (set l a v) b p u 0 nb ∙ get_or-set_other l a p v 0 na

  twice-later : get_or (set (set l a v) b u) b 0 ≡ u
  twice-later = get_or-set_same (set l a v) b u 0 (simp length-set hb)

  twice-earlier : a ≢ b → get_or (set (set l a v) b u) a 0 ≡ v
  twice-earlier n = get_or-set_other (set l a v) b a u 0 n ∙ get_or-set_same l a v 0 ha

module _ {j k w t : ℕ} {x y : ℕ → ℕ} {before after : List ℕ} (s : Strips j k w t x y before after)
    (apart : (j ≡ k) ⊎ (j + w ≤ k)) (t-below : t < w) (j-inside : j + w ≤ length before) (k-inside : k + w ≤ length before)
    (v u : ℕ) (ev : v ≡ add (x t) (y t)) (eu : u ≡ y t) where
  j-now : j + t < length after
  j-now = omega (arith, s.size)

  k-now : k + t < length after
  k-now = omega (arith, s.size)

  later-apart : (i : ℕ) → i < t → k + i ≢ j + t
  later-apart i h e = ⊎_elim (λ (q : j ≡ k). omega arith) (λ (q : j + w ≤ k). omega arith) apart

  past : (base p : ℕ) → (p < base) ⊎ (base + (t + 1) ≤ p) → (p < base) ⊎ (base + t ≤ p)
  past base p o = ⊎_elim (λ (q : p < base). inl q) (λ (q : base + (t + 1) ≤ p). inr (omega arith)) o

  past-not : (base p : ℕ) → (p < base) ⊎ (base + (t + 1) ≤ p) → p ≢ base + t
  past-not base p o e = ⊎_elim (λ (q : p < base). omega arith) (λ (q : base + (t + 1) ≤ p). omega arith) o

  pub strips-more : Strips j k w (t + 1) x y before (set (set after (j + t) v) (k + t) u)
  strips-more =
      record {
        size = simp length-set s.size;
        kept =
            λ p a b. twice-other after (j + t) (k + t) v u j-now k-now p (past-not j p a) (past-not k p b)
            ∙ s.kept p (past j p a) (past k p b);
        later =
            λ i h. elim (ℕ_discrete i t) [
              | yes q ↦ rw q (twice-later after (j + t) (k + t) v u j-now k-now ∙ eu)
              | no q ↦
                  twice-other after (j + t) (k + t) v u j-now k-now (k + i) (later-apart i (omega arith)) (λ e. q (omega arith))
                  ∙ s.later i (omega arith)
            ];
        earlier =
            λ a i h. elim (ℕ_discrete i t) [
              | yes q ↦ rw q (twice-earlier after (j + t) (k + t) v u j-now k-now (λ e. omega arith) ∙ ev)
              | no q ↦
                  twice-other after (j + t) (k + t) v u j-now k-now (j + i) (λ e. q (omega arith)) (λ e. omega arith)
                  ∙ s.earlier a i (omega arith)
            ];
      }
