-- Bytes outside a span are kept: frames compose, and what stands beside a span is as it was.
use mathlib.Core.Path.{◌≡◌, refl, ◌∙◌}
use mathlib.Core.List.{List}
use mathlib.Core.Logic.{◌⊎◌, inl, inr, ⊎_elim}
use Prim.Native.Nat.{ℕ, ◌+◌, ◌≤◌, ◌<◌}
use native.Mathlib.Omega.{arith}
use lib.ListN.{get_or, set, length-set}
use lib.Seq.{get_or-set_other}
use Rattle.span.specs.Span.{Kept}

pub kept-all : (l : List ℕ) (at n : ℕ) → Kept l at n l
kept-all l at n = record { size = refl; below = λ p h. refl; above = λ p h. refl }

-- on either side of the span
pub kept-beside : {before after : List ℕ} {at n : ℕ} → Kept before at n after → (p : ℕ) → (p < at) ⊎ (at + n ≤ p)
    → get_or after p 0 ≡ get_or before p 0
kept-beside k p o = ⊎_elim (k.below p) (k.above p) o

-- a span of m bytes that lies beside the one that is changed
pub kept-span : {before after : List ℕ} {at n : ℕ} → Kept before at n after → (from m : ℕ) → (from + m ≤ at) ⊎ (at + n ≤ from)
    → (i : ℕ) → i < m → get_or after (from + i) 0 ≡ get_or before (from + i) 0
kept-span {before} {after} {at} {n} k from m o i l =
    kept-beside k (from + i) (⊎_elim (λ (h : from + m ≤ at). inl (omega arith)) (λ (h : at + n ≤ from). inr (omega arith)) o)

-- two changes, both inside the m bytes from `lo` on
pub kept-join : {before mid after : List ℕ} {at n to w : ℕ} (lo m : ℕ) → Kept before at n mid → Kept mid to w after
    → (lo ≤ at) × (at + n ≤ lo + m) × (lo ≤ to) × (to + w ≤ lo + m) → Kept before lo m after
kept-join lo m one two within =
    record {
      size = two.size ∙ one.size;
      below = λ p h. two.below p (omega arith) ∙ one.below p (omega arith);
      above = λ p h. two.above p (omega arith) ∙ one.above p (omega arith);
    }

-- one more byte, inside the m bytes from `at` on
pub kept_set : {before after : List ℕ} {at n : ℕ} (m p v : ℕ) → Kept before at n after → n ≤ m → at ≤ p → p < at + m
    → Kept before at m (set after p v)
kept_set {before} {after} m p v k fits low high =
    record {
      size = length-set after p v ∙ k.size;
      below = λ q h. get_or-set_other after p q v 0 (omega arith) ∙ k.below q h;
      above = λ q h. get_or-set_other after p q v 0 (omega arith) ∙ k.above q (omega arith);
    }
