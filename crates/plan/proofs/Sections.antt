-- A file and its sections: their sizes and counts, that entries stand in the file as in its sections, and that a file of bytes is that of its sections.
use mathlib.Core.Path.{◌≡◌, sym, ap, ◌∙◌}
use mathlib.Core.List.{List, ◌++◌, append-nil}
use Prim.Native.Nat.{ℕ, ◌+◌, ◌*◌, ◌≤◌, ◌<◌}
use native.Mathlib.Omega.{arith}
use lib.ListN.{length, get_or, drop, take-append-drop}
use lib.Seq.{get_or-take, get_or-drop, drop-drop, drop-length}
use Rattle.cursor.specs.Steps.{word, word_bytes}
use Rattle.pack.proofs.AirPacks.{word-laid}
use Rattle.pack_writer.proofs.Laying.{part_length}
use Rattle.plan_form.specs.declared.PlanCounts.{PlanCounts}
use Rattle.plan_form.specs.Entries.{Bytes}
use Rattle.plan_form.specs.Form.{plan_end, plan_counts, plan_with, closures_in, fibres_in, splices_in, plan_in, counts_of, plan_of, plan_bytes, section, lists_in}
use Rattle.plan_form.proofs.Agreeing.{Agree}
use Rattle.plan.specs.Calls.{Exact}

pub counts_same : {a a' b b' c c' : ℕ} → a ≡ a' → b ≡ b' → c ≡ c' → plan_counts a b c ≡ plan_counts a' b' c'
counts_same p q r = rw (p, q, r)

module _ (f : List ℕ) where
  section-byte : (at n i : ℕ) → i < n → get_or f (at + i) 0 ≡ get_or (section f at n) (0 + i) 0
  unfolding section
  section-byte at n i l =
      let e : 0 + i ≡ i = omega arith in
      rw e (sym (get_or-drop at f i 0) ∙ sym (get_or-take n (drop at f) i 0 l))

  -- a count, its entries, and what stands behind them
  section-split : Bytes f → (at from n next : ℕ) → from ≡ at + 4 → next ≡ from + n → from ≤ length f
      → drop at f ≡ word_bytes (word f at) ++ (section f from n ++ drop next f)
  unfolding section
  section-split small at from n next e e' room =
      word-laid f small at (omega arith)
      ∙ rw (e', ← drop-drop n from f, take-append-drop n (drop from f), e)

module _ (f : List ℕ) (ends : plan_end (plan_in f).counts ≡ length f) where
  pub closures-size : length (lists_in f).closures ≡ 2 * closures_in f
  unfolding lists_in section plan_in plan_with plan_end
  closures-size = part_length f 4 (2 * closures_in f) (omega arith)

  pub fibres-size : length (lists_in f).fibres ≡ 4 * fibres_in f
  unfolding lists_in section plan_in plan_with plan_end
  fibres-size = part_length f (8 + 2 * closures_in f) (4 * fibres_in f) (omega arith)

  pub splices-size : length (lists_in f).splices ≡ 8 * splices_in f
  unfolding lists_in section plan_in plan_with plan_end
  splices-size = part_length f (12 + 2 * closures_in f + 4 * fibres_in f) (8 * splices_in f) (omega arith)

  pub sections-counted : counts_of (lists_in f) ≡ (plan_in f).counts
  unfolding counts_of plan_in plan_with
  sections-counted =
      let c = closures-size in
      let n = fibres-size in
      let s = splices-size in
      counts_same (omega arith) (omega arith) (omega arith)

  pub sections-exact : Exact (lists_in f) (length f)
  unfolding plan_in plan_with plan_end
  sections-exact =
      let c = closures-size in
      let n = fibres-size in
      let s = splices-size in
      record { closures = omega arith; fibres = omega arith; splices = omega arith; file = omega arith }

  -- the entries stand in the file as in its sections
  pub sections-agree : Agree (plan_in f) (plan_of (lists_in f))
  unfolding plan_in plan_with plan_of lists_in
  sections-agree =
      record {
        counts = sym sections-counted;
        closures = record { bytes = section-byte f 4 (2 * closures_in f) };
        fibres = record { bytes = section-byte f (8 + 2 * closures_in f) (4 * fibres_in f) };
        splices = record { bytes = section-byte f (12 + 2 * closures_in f + 4 * fibres_in f) (8 * splices_in f) };
      }

  -- the file of its sections
  pub file_back : Bytes f → f ≡ plan_bytes (lists_in f)
  unfolding plan_bytes lists_in plan_in plan_with plan_end closures_in fibres_in splices_in
  file_back small =
      let c = closures_in f in
      let n = fibres_in f in
      let s = splices_in f in
      let first = section-split f small 0 4 (2 * c) (4 + 2 * c) (omega arith) (omega arith) (omega arith) in
      let second = section-split f small (4 + 2 * c) (8 + 2 * c) (4 * n) (8 + 2 * c + 4 * n) (omega arith) (omega arith) (omega arith) in
      let third = section-split f small (8 + 2 * c + 4 * n) (12 + 2 * c + 4 * n) (8 * s) (length f) (omega arith) (omega arith) (omega arith) in
      rw (ap (λ (k : PlanCounts). k.closures) sections-counted, ap (λ (k : PlanCounts). k.fibres) sections-counted, ap (λ (k : PlanCounts). k.splices) sections-counted)
      (first
      ∙ ap (λ (q : List ℕ). word_bytes c ++ ((lists_in f).closures ++ q)) (second
      ∙ ap (λ (q : List ℕ). word_bytes n ++ ((lists_in f).fibres ++ q)) (third
      ∙ ap (λ (q : List ℕ). word_bytes s ++ ((lists_in f).splices ++ q)) (drop-length f) ∙ rw append-nil)))
