-- Entries at the start of a list, and sections one behind the other.
use mathlib.Core.Path.{◌≡◌, sym, ap, ap₂, ◌∙◌}
use mathlib.Core.List.{List, ◌++◌, append_assoc}
use Prim.Native.Nat.{ℕ, ◌+◌, ◌-◌, ◌/◌, ◌≤◌, ◌<◌}
use native.Mathlib.Omega.{arith}
use lib.ListN.{length, get_or, take, drop, length-append, length-drop, take-append-drop}
use lib.Seq.{length-take-le, get_or-take, get_or-drop, ext_get_or}
use Rattle.span.specs.Span.{Copied, Put}
use Rattle.span.proofs.Copying.{copied-whole}
use Rattle.span.proofs.Putting.{copied-put, put-put, put_all}
use Rattle.cursor.specs.declared.Cursor.{Cursor}
use Rattle.cursor.specs.Steps.{word_bytes}
use Rattle.pack_writer.specs.Writing.{Laid}
use Rattle.pack_writer.proofs.Laying.{laid-laid, part_length}
use Rattle.plan_form.specs.Form.{lists, counts_of, plan_bytes, section}
use Rattle.plan.specs.Calls.{begun}

-- a list that was put at the start of a slice, and what stands behind it
begun-put : {s vs after : List ℕ} → Put s 0 vs after → length vs ≤ length s → after ≡ vs ++ drop (length vs) s
begun-put {s} {vs} {after} p l =
    let size : length (take (length vs) after) ≡ length vs = length-take-le (length vs) after (omega (arith, p.kept.size)) in
    sym (take-append-drop (length vs) after)
    ∙ ap₂ ◌++◌
    (ext_get_or 0 (take (length vs) after) vs size (λ i m. get_or-take (length vs) after i 0 (omega arith) ∙ first-copied i (omega arith)))
    (ext_get_or 0 (drop (length vs) after) (drop (length vs) s) (length-drop (length vs) after ∙ ap (λ (k : ℕ). k - length vs) p.kept.size ∙ sym (length-drop (length vs) s))
    (λ i m. get_or-drop (length vs) after i 0 ∙ p.kept.above (length vs + i) (omega arith) ∙ sym (get_or-drop (length vs) s i 0)))
  where
    first-copied : (i : ℕ) → i < length vs → get_or after i 0 ≡ get_or vs i 0
    first-copied i m = let same : 0 + i ≡ i = omega arith in rw same at (copied-whole p i m)

-- bytes of the file that were copied there
pub begun-copied : {f before after : List ℕ} {from n : ℕ} → from + n ≤ length f → n ≤ length before → Copied f from before 0 n after
    → after ≡ begun (section f from n) before
unfolding begun section
begun-copied {f} {before} {after} {from} {n} l m copied = begun-put (copied-put l copied) (omega (arith, part_length f from n l))

-- a count and the entries behind it
pub section-laid : {s mid after bytes : List ℕ} (c : Cursor) (count : ℕ) (list : List ℕ) → bytes ≡ word_bytes count → Copied bytes 0 s c.at 4 mid
    → Copied list 0 mid (c.at + 4) (length list) after → Laid s c (word_bytes count ++ list) after (record { at = c.at + 4 + length list })
unfolding word_bytes
section-laid {s} {mid} {after} {bytes} c count list e first second =
    record { put = put-put (rw e at first) second; behind = omega (arith, length-append (word_bytes count) list) }

pub section-size : (n : ℕ) (xs : List ℕ) → length (word_bytes n ++ xs) ≡ 4 + length xs
unfolding word_bytes
section-size n xs = omega (arith, length-append (word_bytes n) xs)

-- three sections, each after its count, over the whole of a slice
module _ (cs fs ss : List ℕ) where
  abbrev first : List ℕ
  first = word_bytes (length cs / 2) ++ cs

  abbrev second : List ℕ
  second = word_bytes (length fs / 4) ++ fs

  abbrev third : List ℕ
  third = word_bytes (length ss / 8) ++ ss

  pub sections-size : length ((first ++ second) ++ third) ≡ 12 + length cs + length fs + length ss
  sections-size =
      omega
      (arith, length-append (first ++ second) third, length-append first second, section-size (length cs / 2) cs, section-size (length fs / 4) fs, section-size (length ss / 8) ss)

  pub sections-joined : (first ++ second) ++ third ≡ plan_bytes (lists cs fs ss)
  unfolding plan_bytes counts_of
  sections-joined = simp append_assoc

  pub sections-put : {s a b after : List ℕ} {c d e g : Cursor} → c.at ≡ 0 → Laid s c first a d → Laid a d second b e → Laid b e third after g
      → length s ≡ 12 + length cs + length fs + length ss → after ≡ plan_bytes (lists cs fs ss)
  sections-put start l m n size = put_all (rw start at (laid-laid (laid-laid l m) n).put) (sections-size ∙ sym size) ∙ sections-joined
