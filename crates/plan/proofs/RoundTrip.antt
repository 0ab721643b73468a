-- The writer and the reader of plans undo each other: the sections of a written file are the lists that it was written from, a file that is shown is
-- that of its sections, and either is a plan where the other is.
use mathlib.Core.Path.{◌≡◌, refl, sym, ap, subst, ◌∙◌}
use mathlib.Core.List.{List, [], ◌++◌, append_assoc, append-nil}
use Prim.Native.Nat.{ℕ, ◌+◌, ◌*◌, ◌^◌, ◌<◌}
use native.Mathlib.Omega.{arith}
use lib.ListN.{length, take, drop, length-append}
use lib.Seq.{take_at, drop_at}
use Rattle.answer.specs.Values.{Value, gives}
use Rattle.cursor.specs.Steps.{word, word_bytes}
use Rattle.pack.proofs.Written.{word-word_bytes}
use Rattle.plan_form.specs.declared.PlanCounts.{PlanCounts}
use Rattle.plan_form.specs.Entries.{Bytes, entries}
use Rattle.plan_form.specs.Form.{closure, fibre, splice, plan_end, Has, Rule, IsPlan, plan_with, closures_in, fibres_in, splices_in, plan_in, Lists, lists, counts_of, plan_of, plan_bytes, section, lists_in}
use Rattle.plan_form.specs.Theorems.{BrokenOrPlan}
use Rattle.plan_form.proofs.Few.{closures-few, fibres-few, splices-few}
use Rattle.plan_form.proofs.OnePlace.{broken-or-plan}
use Rattle.plan_form.proofs.Agreeing.{plan-agrees, agree-back}
use Rattle.plan.specs.Calls.{Exact, WritePlanOutcome, write_inexact, write_broken, written, Room, begun, lists_begun, ReadPlanOutcome, read_broken, read_short, read_shown}
use Rattle.plan.specs.Theorems.{ListBytes, UndoWrite, first_entries, UndoRead}
use Rattle.plan.proofs.Sections.{counts_same, closures-size, fibres-size, splices-size, sections-counted, sections-exact, sections-agree, file_back}
use Rattle.plan.proofs.Beginning.{section-size, sections-size, sections-joined}

lists-same : {a a' b b' c c' : List ℕ} → a ≡ a' → b ≡ b' → c ≡ c' → lists a b c ≡ lists a' b' c'
lists-same p q r = rw (p, q, r)

-- ---- a file that was written

word_size : (n : ℕ) → length (word_bytes n) ≡ 4
unfolding word_bytes
word_size n = refl

-- what stands behind so many bytes
word_at : (f p q : List ℕ) (at n : ℕ) → f ≡ p ++ (word_bytes n ++ q) → length p ≡ at → n < 2 ^ 32 → word f at ≡ n
word_at f p q at n e size small = rw (e, ← size) (word-word_bytes p q n small)

section-at : (f p q r : List ℕ) (at n : ℕ) → f ≡ p ++ (q ++ r) → length p ≡ at → length q ≡ n → section f at n ≡ q
unfolding section
section-at f p q r at n e before size = rw (e, drop_at p (q ++ r) at before, take_at q r n size)

-- each count of a plan fits in its four bytes
record Fits (n : PlanCounts) : Type 0 where
  closures : n.closures < 2 ^ 32
  fibres : n.fibres < 2 ^ 32
  splices : n.splices < 2 ^ 32

plan-fits : (l : Lists) (len : ℕ) → ListBytes l → IsPlan (plan_of l) len → Fits (counts_of l)
unfolding plan_of Has Rule
plan-fits l len small plan =
    let C = entries l.closures 0 in
    let F = entries l.fibres 0 in
    let S = entries l.splices 0 in
    let c = (counts_of l).closures in
    let n = (counts_of l).fibres in
    let few-closures = closures-few C small.closures c (λ k m. (plan.sound (closure k) m).kept) in
    let few-fibres = fibres-few C c F small.fibres n (λ k m. (plan.sound (fibre k) m).kept) in
    let few-splices = splices-few F n S (counts_of l).splices (λ k m. (plan.sound (splice k) m).kept) in
    record { closures = omega arith; fibres = omega arith; splices = omega arith }

module _ (l : Lists) (f : List ℕ) (is : f ≡ plan_bytes l) (exact : Exact l (length f)) (fits : Fits (counts_of l)) where
  abbrev c : ℕ
  c = (counts_of l).closures

  abbrev n : ℕ
  n = (counts_of l).fibres

  abbrev s : ℕ
  s = (counts_of l).splices

  closures-counted : closures_in f ≡ c
  unfolding closures_in plan_bytes
  closures-counted = word_at f [] _ 0 c is refl fits.closures

  -- the file up to each section's count
  abbrev to-fibres : List ℕ
  to-fibres = word_bytes c ++ l.closures

  abbrev to-splices : List ℕ
  to-splices = to-fibres ++ (word_bytes n ++ l.fibres)

  to-fibres-size : length to-fibres ≡ 4 + 2 * closures_in f
  unfolding counts_of
  to-fibres-size = omega (arith, section-size c l.closures, closures-counted, exact.closures)

  fibres-counted : fibres_in f ≡ n
  unfolding fibres_in plan_bytes
  fibres-counted =
      let laid : f ≡ to-fibres ++ (word_bytes n ++ (l.fibres ++ (word_bytes s ++ l.splices))) = is ∙ simp append_assoc in
      word_at f to-fibres _ (4 + 2 * closures_in f) n laid to-fibres-size fits.fibres

  to-splices-size : length to-splices ≡ 8 + 2 * closures_in f + 4 * fibres_in f
  unfolding counts_of
  to-splices-size =
      omega (arith, length-append to-fibres (word_bytes n ++ l.fibres), section-size n l.fibres, to-fibres-size, fibres-counted, exact.fibres)

  splices-counted : splices_in f ≡ s
  unfolding splices_in plan_bytes
  splices-counted =
      let laid : f ≡ to-splices ++ (word_bytes s ++ l.splices) = is ∙ simp append_assoc in
      word_at f to-splices _ (8 + 2 * closures_in f + 4 * fibres_in f) s laid to-splices-size fits.splices

  written-counts : (plan_in f).counts ≡ counts_of l
  unfolding plan_in plan_with
  written-counts = counts_same closures-counted fibres-counted splices-counted

  -- the sections of the file are the lists
  written-sections : lists_in f ≡ l
  unfolding lists_in plan_bytes counts_of
  written-sections =
      let ec = closures-counted in
      let en = fibres-counted in
      let es = splices-counted in
      let behind : f ≡ (to-fibres ++ word_bytes n) ++ (l.fibres ++ (word_bytes s ++ l.splices)) = is ∙ simp append_assoc in
      let last : f ≡ (to-splices ++ word_bytes s) ++ (l.splices ++ []) = is ∙ simp (append_assoc, append-nil) in
      lists-same
      (section-at f (word_bytes c) l.closures _ 4 (2 * closures_in f) is (word_size c) (omega (arith, exact.closures)))
      (section-at f (to-fibres ++ word_bytes n) l.fibres _ (8 + 2 * closures_in f) (4 * fibres_in f) behind
      (omega (arith, length-append to-fibres (word_bytes n), word_size n, to-fibres-size)) (omega (arith, exact.fibres)))
      (section-at f (to-splices ++ word_bytes s) l.splices [] (12 + 2 * closures_in f + 4 * fibres_in f) (8 * splices_in f) last
      (omega (arith, length-append to-splices (word_bytes s), word_size s, to-splices-size)) (omega (arith, exact.splices)))

  -- so the file is a plan where the lists are
  written-plan : IsPlan (plan_of l) (plan_end (counts_of l)) → IsPlan (plan_in f) (length f)
  unfolding plan_end counts_of
  written-plan plan =
      let ends : plan_end (counts_of l) ≡ length f = omega (arith, exact.closures, exact.fibres, exact.splices, exact.file) in
      let listed : IsPlan (plan_of (lists_in f)) (length f) = rw (written-sections, ← ends) plan in
      plan-agrees (agree-back (sections-agree f (ap plan_end written-counts ∙ ends))) (length f) listed

-- the writer's output has the file's size
written-exact : {l : Lists} {f : List ℕ} {output : ℕ} → f ≡ plan_bytes l → Exact l output → Exact l (length f)
written-exact {l} {f} is exact =
    record {
      closures = exact.closures;
      fibres = exact.fibres;
      splices = exact.splices;
      file = ap length (is ∙ sym (sections-joined l.closures l.fibres l.splices)) ∙ sections-size l.closures l.fibres l.splices;
    }

-- ---- what was written is shown

module _ (l : Lists) (f : List ℕ) {lent lent' : Lists} (plan : IsPlan (plan_in f) (length f)) (counts : (plan_in f).counts ≡ counts_of l) (sections : lists_in f ≡ l) where
  plan-shown : {v : Value PlanCounts} → ReadPlanOutcome f lent lent' v → Room l lent → (v ≡ gives (counts_of l)) × (lent' ≡ lists_begun l lent)
  unfolding BrokenOrPlan
  plan-shown (read_broken at b _) room = absurd (broken-or-plan (plan_in f) (length f) at plan b)
  plan-shown (read_short _ bad _) room = absurd (bad (rw sections room))
  plan-shown (read_shown _ _ e) room = (ap gives counts, rw sections at e)

pub undo-write : UndoWrite
unfolding UndoWrite
undo-write l before f lent lent' v small (written given plan is) room read =
    let exact = written-exact is given in
    let fits = plan-fits l (plan_end (counts_of l)) small plan in
    plan-shown l f (written-plan l f is exact fits plan) (written-counts l f is exact fits) (written-sections l f is exact fits) read room

-- ---- what was shown is written to the same file

-- a plan that was shown, and its sections, which begin the lists
shown-plan : {f : List ℕ} {lent lent' : Lists} {v : Value PlanCounts} → ReadPlanOutcome f lent lent' v → (n : PlanCounts) → v ≡ gives n
    → IsPlan (plan_in f) (length f) × (n ≡ (plan_in f).counts) × (lent' ≡ lists_begun (lists_in f) lent)
shown-plan (read_broken _ _ _) n q = let z : ◌≡◌ {A = ℕ} 0 1 = cc in absurd (omega arith)
shown-plan (read_short _ _ _) n q = let z : ◌≡◌ {A = ℕ} 0 1 = cc in absurd (omega arith)
shown-plan (read_shown plan _ e) n q = (plan, cc, e)

begun-taken : (section list : List ℕ) (n : ℕ) → length section ≡ n → take n (begun section list) ≡ section
unfolding begun
begun-taken section list n size = take_at section (drop (length section) list) n size

module _ (f : List ℕ) (plan : IsPlan (plan_in f) (length f)) where
  entries-taken : (lent : Lists) → first_entries (plan_in f).counts (lists_begun (lists_in f) lent) ≡ lists_in f
  unfolding first_entries lists_begun plan_in plan_with
  entries-taken lent =
      let ends = plan.ends in
      lists-same
      (begun-taken (lists_in f).closures lent.closures (2 * closures_in f) (closures-size f ends))
      (begun-taken (lists_in f).fibres lent.fibres (4 * fibres_in f) (fibres-size f ends))
      (begun-taken (lists_in f).splices lent.splices (8 * splices_in f) (splices-size f ends))

  -- the sections are a plan where the file is
  sections-plan : IsPlan (plan_of (lists_in f)) (plan_end (counts_of (lists_in f)))
  sections-plan =
      let ends : length f ≡ plan_end (counts_of (lists_in f)) = sym (ap plan_end (sections-counted f plan.ends) ∙ plan.ends) in
      subst (IsPlan (plan_of (lists_in f))) ends (plan-agrees (sections-agree f plan.ends) (length f) plan)

  sections-written : Bytes f → {before after : List ℕ} {v : Value Unit} → WritePlanOutcome (lists_in f) before after v → length before ≡ length f
      → (v ≡ gives tt) × (after ≡ f)
  unfolding BrokenOrPlan
  sections-written small (write_inexact bad _) size = absurd (bad (rw size (sections-exact f plan.ends)))
  sections-written small (write_broken _ at b _) size = absurd (broken-or-plan (plan_of (lists_in f)) (plan_end (counts_of (lists_in f))) at sections-plan b)
  sections-written small (written _ _ e) size = (refl, e ∙ sym (file_back f plan.ends small))

pub undo-read : UndoRead
unfolding UndoRead
undo-read f lent lent' n before after v small read write size =
    let (plan, counts, shows) = shown-plan read n refl in
    let taken : first_entries n lent' ≡ lists_in f = rw (counts, shows) (entries-taken f plan lent) in
    sections-written f plan small (rw taken at write) size
