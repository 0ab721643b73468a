-- Lists that stand at a place of a slice: none, one byte, one list behind another, a copied or set span, the whole slice.
use mathlib.Core.Path.{◌≡◌, refl, sym, ap, ◌∙◌}
use mathlib.Core.List.{List, [], ◌∷◌, ◌++◌}
use Prim.Native.Nat.{ℕ, ◌+◌, ◌-◌, ◌≤◌, ◌<◌}
use native.Mathlib.Decide.{dec_lt}
use native.Mathlib.Omega.{arith}
use lib.ListN.{length, get_or, set, take, drop, replicate, length-append, length-replicate, get_or-replicate, get_or-append}
use lib.Seq.{get_or-append-add, ext_get_or}
use Rattle.span.specs.Span.{Copied, SetTo, Put}
use Rattle.span.proofs.Parts.{part-byte, part-length}
use Rattle.span.proofs.Keeping.{kept-join}
use Rattle.span.proofs.Copying.{copied_none, copied_more, copied-whole}

pub put-none : (s : List ℕ) (at : ℕ) → Put s at [] s
put-none s at = copied_none [] s 0 at

pub put_one : (s : List ℕ) (at v : ℕ) → at < length s → Put s at (v ∷ []) (set s at v)
put_one s at v room = copied_more (v ∷ []) s s 0 at 0 at v (omega arith) refl room (copied_none (v ∷ []) s 0 at)

-- n bytes of a source, as the list that they are
pub copied-put : {src before after : List ℕ} {from to n : ℕ} → from + n ≤ length src → Copied src from before to n after
    → Put before to (take n (drop from src)) after
copied-put {src} {before} {after} {from} {to} {n} inside c =
    let size : length (take n (drop from src)) ≡ n = part-length src from n inside in
    record {
      copied = λ i l.
          let less : i < n = omega arith in
          let same : 0 + i ≡ i = omega arith in
          rw same (c.copied i less ∙ sym (part-byte src from n i less));
      kept = rw size c.kept;
    }

pub set-put : {before after : List ℕ} {at n v : ℕ} → SetTo before at n v after → Put before at (replicate n v) after
set-put {before} {after} {at} {n} {v} h =
    record {
      copied = λ i l.
          let less : i < n = omega (arith, length-replicate n v) in
          let same : 0 + i ≡ i = omega arith in
          rw same (h.bytes i less ∙ sym (get_or-replicate n i v 0 less));
      kept = rw (length-replicate n v) h.kept;
    }

-- a list behind a list
module _ {s vs mid us after : List ℕ} {at : ℕ} (first : Put s at vs mid) (second : Put mid (at + length vs) us after) where
  pub put-put : Put s at (vs ++ us) after
  put-put =
      record {
        copied = λ i l. elim (dec_lt i (length vs)) [
          | yes less ↦
              let same : 0 + i ≡ i = omega arith in
              rw same (second.kept.below (at + i) (omega arith) ∙ copied-whole first i less ∙ sym (get_or-append vs us 0 i less))
          | no more ↦
              let same : 0 + i ≡ length vs + (i - length vs) = omega arith in
              let place : at + i ≡ at + length vs + (i - length vs) = omega arith in
              ap (λ (k : ℕ). get_or after k 0) place ∙ copied-whole second (i - length vs) (omega (arith, length-append vs us))
              ∙ sym (ap (λ (k : ℕ). get_or (vs ++ us) k 0) same ∙ get_or-append-add vs us (i - length vs) 0)
        ];
        kept =
            let n = length-append vs us in
            kept-join at (length (vs ++ us)) first.kept second.kept (omega arith, omega arith, omega arith, omega arith);
      }

-- one byte more
pub put-more : {s vs mid : List ℕ} {at : ℕ} (i v : ℕ) → Put s at vs mid → i ≡ at + length vs → i < length s
    → Put s at (vs ++ (v ∷ [])) (set mid i v)
put-more {s} {vs} {mid} {at} i v first e room = put-put first (rw (sym e) (put_one mid i v (omega (arith, first.kept.size))))

-- the whole slice
pub put_all : {s vs after : List ℕ} → Put s 0 vs after → length vs ≡ length s → after ≡ vs
put_all {s} {vs} {after} p e =
    ext_get_or 0 after vs (p.kept.size ∙ sym e)
    (λ i l.
    let same : 0 + i ≡ i = omega arith in
    ap (λ (k : ℕ). get_or after k 0) (sym same) ∙ copied-whole p i (omega (arith, p.kept.size)))
