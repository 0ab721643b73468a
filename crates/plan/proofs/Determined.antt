-- The contracts of the calls on plans determine answers, counts and lists: a plan is broken at one byte and at none where it is in the form, and what
-- is received before a plan is read is determined by the receiver's own theorem.
use mathlib.Core.Path.{◌≡◌, refl, sym, ap, ◌∙◌}
use mathlib.Core.List.{List}
use mathlib.Core.Logic.{◌≢◌}
use Prim.Native.Nat.{ℕ}
use lib.ListN.{length, take}
use Rattle.answer.specs.Values.{Value, gives, refused, refused_at}
use Rattle.field.specs.Field.{Primitive}
use Rattle.receiver.specs.declared.Counts.{Counts}
use Rattle.receiver.specs.Gathering.{Reception, file, no_counts}
use Rattle.receiver.specs.Receive.{Memory, ReceiveOutcome}
use Rattle.receiver.specs.Theorems.{NothingLeftOpen}
use Rattle.plan_form.specs.declared.PlanCounts.{PlanCounts}
use Rattle.plan_form.specs.Form.{plan_end, plan_in, Lists, counts_of, plan_of}
use Rattle.plan_form.specs.Theorems.{OneBroken, BrokenOrPlan}
use Rattle.plan_form.proofs.OnePlace.{one-broken, broken-or-plan}
use Rattle.plan.specs.Calls.{write_inexact, write_broken, written, ReadPlanOutcome, read_broken, read_short, read_shown}
use Rattle.plan.specs.Receiving.{no_entries, ReceivePlanOutcome, no_file, no_plan, no_room, shown}
use Rattle.plan.specs.Theorems.{WriteDetermined, ReadDetermined, PlanNothingLeftOpen, ReceiveDetermined}

pub write-determined : WriteDetermined
unfolding WriteDetermined OneBroken BrokenOrPlan
write-determined l before a b v w (write_inexact _ e) (write_inexact _ e') = (refl, e ∙ sym e')
write-determined l before a b v w (write_inexact bad _) (write_broken exact _ _ _) = absurd (bad exact)
write-determined l before a b v w (write_inexact bad _) (written exact _ _) = absurd (bad exact)
write-determined l before a b v w (write_broken exact _ _ _) (write_inexact bad _) = absurd (bad exact)
write-determined l before a b v w (write_broken _ at x e) (write_broken _ at' y e') =
    (ap (refused_at 18) (one-broken (plan_of l) (plan_end (counts_of l)) at at' x y), e ∙ sym e')
write-determined l before a b v w (write_broken _ at x _) (written _ plan _) = absurd (broken-or-plan (plan_of l) (plan_end (counts_of l)) at plan x)
write-determined l before a b v w (written exact _ _) (write_inexact bad _) = absurd (bad exact)
write-determined l before a b v w (written _ plan _) (write_broken _ at x _) = absurd (broken-or-plan (plan_of l) (plan_end (counts_of l)) at plan x)
write-determined l before a b v w (written _ _ e) (written _ _ e') = (refl, e ∙ sym e')

pub read-determined : ReadDetermined
unfolding ReadDetermined OneBroken BrokenOrPlan
read-determined f l a b v w (read_broken at x e) (read_broken at' y e') = (ap (refused_at 18) (one-broken (plan_in f) (length f) at at' x y), e ∙ sym e')
read-determined f l a b v w (read_broken at x _) (read_short plan _ _) = absurd (broken-or-plan (plan_in f) (length f) at plan x)
read-determined f l a b v w (read_broken at x _) (read_shown plan _ _) = absurd (broken-or-plan (plan_in f) (length f) at plan x)
read-determined f l a b v w (read_short plan _ _) (read_broken at x _) = absurd (broken-or-plan (plan_in f) (length f) at plan x)
read-determined f l a b v w (read_short _ _ e) (read_short _ _ e') = (refl, e ∙ sym e')
read-determined f l a b v w (read_short _ bad _) (read_shown _ room _) = absurd (bad room)
read-determined f l a b v w (read_shown plan _ _) (read_broken at x _) = absurd (broken-or-plan (plan_in f) (length f) at plan x)
read-determined f l a b v w (read_shown _ room _) (read_short _ bad _) = absurd (bad room)
read-determined f l a b v w (read_shown _ _ e) (read_shown _ _ e') = (refl, e ∙ sym e')

-- ---- receiving

-- what is answered where a file of n bytes, received with counts k, is read as a plan with this result
unfoldable answered : ℕ → Counts → Value PlanCounts → Value Reception × Counts × PlanCounts
answered n k (gives e) = (gives (file n), k, e)
answered n k (refused x) = (refused x, no_counts, no_entries)
answered n k (refused_at x at) = (refused_at x at, no_counts, no_entries)

-- an outcome of receiving a plan, in two stages: there is no file, or one that is then read
data Stage (r : ℕ) (p : List ℕ) (m m' : Memory) (l l' : Lists) : Value Reception × Counts × PlanCounts → Type 0 where
  without :
      (v : Value Reception) (k : Counts) → ReceiveOutcome r p m m' v k → ((n : ℕ) → v ≢ gives (file n)) → l' ≡ l →
      Stage r p m m' l l' (v, k, no_entries)
  reading :
      (n : ℕ) (k : Counts) → ReceiveOutcome r p m m' (gives (file n)) k →
      (u : Value PlanCounts) → ReadPlanOutcome (take n m'.buffer) l l' u →
      Stage r p m m' l l' (answered n k u)

stage : {r : ℕ} {p : List ℕ} {m m' : Memory} {l l' : Lists} {v : Value Reception} {k : Counts} {e : PlanCounts} → ReceivePlanOutcome r p m m' l l' v k e
    → Stage r p m m' l l' (v, k, e)
unfolding answered
stage (no_file v k o none e) = without v k o none e
stage (no_plan n k o at read) = reading n k o (refused_at 18 at) read
stage (no_room n k o read) = reading n k o (refused 4) read
stage (shown n k o e read) = reading n k o (gives e) read

module _ (one : NothingLeftOpen) {r : ℕ} (primitive : Primitive r) {p : List ℕ} {m a b : Memory} {l x y : Lists} where
  -- one file, read once
  reading-same : (n n' : ℕ) (k k' : Counts) → ReceiveOutcome r p m a (gives (file n)) k → ReceiveOutcome r p m b (gives (file n')) k'
      → (u u' : Value PlanCounts) → ReadPlanOutcome (take n a.buffer) l x u → ReadPlanOutcome (take n' b.buffer) l y u'
      → (answered n k u ≡ answered n' k' u') × (a ≡ b) × (x ≡ y)
  unfolding NothingLeftOpen ReadDetermined
  reading-same n n' k k' o o' u u' read read' =
      let (named, counted, left) = one r primitive p m a b (gives (file n)) (gives (file n')) k k' o o' in
      let same : n ≡ n' = cc in
      let lent : take n a.buffer ≡ take n' b.buffer = cc in
      let (value, shows) = read-determined (take n' b.buffer) l x y u u' (rw lent at read) read' in
      (rw (same, counted, value), left, shows)

  stage-same : {v w : Value Reception × Counts × PlanCounts} → Stage r p m a l x v → Stage r p m b l y w → (v ≡ w) × (a ≡ b) × (x ≡ y)
  unfolding NothingLeftOpen
  stage-same (without v k o _ e) (without w j o' _ e') =
      let (named, counted, left) = one r primitive p m a b v w k j o o' in
      (rw (named, counted), left, e ∙ sym e')
  stage-same (without v k o none _) (reading n j o' _ _) = absurd (none n (one r primitive p m a b v (gives (file n)) k j o o').0)
  stage-same (reading n k o _ _) (without w j o' none _) = absurd (none n (sym (one r primitive p m a b (gives (file n)) w k j o o').0))
  stage-same (reading n k o u read) (reading n' j o' u' read') = reading-same n n' k j o o' u u' read read'

pub receive-determined : ReceiveDetermined
unfolding ReceiveDetermined PlanNothingLeftOpen
receive-determined one r primitive p m a b l x y v w k j e d o o' =
    let (answers, memory, shows) = stage-same one primitive (stage o) (stage o') in (
      ap (λ (t : Value Reception × Counts × PlanCounts). t.0) answers,
      ap (λ (t : Value Reception × Counts × PlanCounts). t.1) answers,
      ap (λ (t : Value Reception × Counts × PlanCounts). t.2) answers,
      memory,
      shows,
    )
