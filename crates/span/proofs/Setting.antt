-- Spans of bytes set to one value: one byte more, and a whole slice.
use mathlib.Core.Path.{◌≡◌, refl, sym, ap, ◌∙◌}
use mathlib.Core.List.{List}
use Prim.Native.Nat.{ℕ, ◌+◌, ◌-◌, ◌≤◌, ◌<◌}
use native.Mathlib.Omega.{arith}
use lib.ListN.{length, get_or, set, replicate, length-replicate, get_or-replicate}
use lib.Seq.{ext_get_or}
use Rattle.span.specs.Span.{SetTo}
use Rattle.span.proofs.Keeping.{kept-all, kept_set}
use Rattle.span.proofs.Writing.{written-more}

pub set-none : (l : List ℕ) (at v : ℕ) → SetTo l at 0 v l
set-none l at v = record { bytes = λ i h. absurd (omega arith); kept = kept-all l at 0 }

pub set_more : (before after : List ℕ) (at n v : ℕ) → at + n < length after → SetTo before at n v after
    → SetTo before at (n + 1) v (set after (at + n) v)
set_more before after at n v room h =
    record {
      bytes = written-more (λ i. v) after at n (at + n) v refl refl room h.bytes;
      kept = kept_set (n + 1) (at + n) v h.kept (omega arith) (omega arith) (omega arith);
    }

-- a place by its number in the slice
pub set_at : {before after : List ℕ} {at n v : ℕ} → SetTo before at n v after → (p : ℕ) → at ≤ p → p < at + n → get_or after p 0 ≡ v
set_at {before} {after} {at} h p low high =
    let place : at + (p - at) ≡ p = omega arith in
    ap (λ (k : ℕ). get_or after k 0) (sym place) ∙ h.bytes (p - at) (omega arith)

-- the whole slice
pub set-whole : {before after : List ℕ} {n v : ℕ} → SetTo before 0 n v after → n ≡ length before → after ≡ replicate n v
set-whole {before} {after} {n} {v} h whole =
    ext_get_or 0 after (replicate n v) (h.kept.size ∙ sym whole ∙ sym (length-replicate n v))
    (λ i l.
    let less : i < n = omega (arith, h.kept.size) in
    set_at h i (omega arith) (omega arith) ∙ sym (get_or-replicate n i v 0 less))
