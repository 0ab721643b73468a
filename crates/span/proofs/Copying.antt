-- Spans of bytes copied: one byte more, or one piece more.
use mathlib.Core.Path.{◌≡◌, sym, ap, ◌∙◌}
use mathlib.Core.List.{List}
use Prim.Native.Nat.{ℕ, ◌+◌, ◌-◌, ◌≤◌, ◌<◌}
use native.Mathlib.Decide.{dec_le}
use native.Mathlib.Omega.{arith}
use lib.ListN.{length, get_or, set}
use Rattle.span.specs.Span.{Copied, Piece}
use Rattle.span.proofs.Keeping.{kept-all, kept-join, kept_set}
use Rattle.span.proofs.Writing.{written-more}

pub copied_none : (src dst : List ℕ) (from to : ℕ) → Copied src from dst to 0 dst
copied_none src dst from to = record { copied = λ i l. absurd (omega arith); kept = kept-all dst to 0 }

pub copied_more : (src before after : List ℕ) (from to n p v : ℕ) → p ≡ to + n → v ≡ get_or src (from + n) 0 → p < length after
    → Copied src from before to n after → Copied src from before to (n + 1) (set after p v)
copied_more src before after from to n p v at byte room h =
    record {
      copied = written-more (λ i. get_or src (from + i) 0) after to n p v at byte room h.copied;
      kept = kept_set (n + 1) p v h.kept (omega arith) (omega arith) (omega arith);
    }

pub copied-piece : {src before c : List ℕ} {from n : ℕ} → length before ≡ n → Copied src from before 0 n c → Piece src from n c
copied-piece {src} {before} {c} {from} {n} size h =
    record {
      size = h.kept.size ∙ size;
      bytes = λ i l. let same : i ≡ 0 + i = omega arith in ap (λ (k : ℕ). get_or c k 0) same ∙ h.copied i l;
    }

-- a piece of m bytes more, which may begin before the end of those that are copied
pub copied-longer : {src before mid after c : List ℕ} {from to n at : ℕ} (a m : ℕ) → at ≡ to + a → Copied src from before to n mid
    → Piece src (from + a) m c → Copied c 0 mid at m after → a ≤ n → n ≤ a + m → Copied src from before to (a + m) after
copied-longer {src} {before} {mid} {after} {c} {from} {to} {n} {at} a m e h w s starts ends =
    record {
      copied = λ i l. elim (dec_le a i) [
        | yes y ↦
            let here : at + (i - a) ≡ to + i = omega arith in
            let of : from + a + (i - a) ≡ from + i = omega arith in
            let same : 0 + (i - a) ≡ i - a = omega arith in
            ap (λ (k : ℕ). get_or after k 0) (sym here) ∙ s.copied (i - a) (omega arith) ∙ ap (λ (k : ℕ). get_or c k 0) same
            ∙ w.bytes (i - a) (omega arith) ∙ ap (λ (k : ℕ). get_or src k 0) of
        | no y ↦ s.kept.below (to + i) (omega arith) ∙ h.copied i (omega arith)
      ];
      kept = kept-join to (a + m) h.kept s.kept (omega arith, omega arith, omega arith, omega arith);
    }

-- all of src
pub copied-whole : {src before after : List ℕ} {to n : ℕ} → Copied src 0 before to n after → (i : ℕ) → i < n → get_or after (to + i) 0 ≡ get_or src i 0
copied-whole {src} c i l = let same : 0 + i ≡ i = omega arith in c.copied i l ∙ ap (λ (k : ℕ). get_or src k 0) same
