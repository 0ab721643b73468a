-- Receiving a plan (request P4): what the receiver answers and leaves comes first, and its file is then read as a plan.
use Rattle.std.specs.Prelude.{◌≡◌, List, ◌≢◌, ℕ, take, unwrap_or, Result, Ok, Err}
use Rattle.answer.specs.declared.Refusal.{Refusal}
use Rattle.answer.specs.Values.{Value, gives, refused, refused_at, refusal}
use Rattle.receiver.specs.declared.Counts.{Counts}
use Rattle.receiver.specs.Gathering.{Reception, file, no_counts}
use Rattle.receiver.specs.Receive.{reception_of, Memory, ReceiveOutcome}
use Rattle.plan_form.specs.declared.PlanCounts.{PlanCounts}
use Rattle.plan_form.specs.Form.{plan_counts, Lists}
use Rattle.plan.specs.declared.PlanReceived.{PlanReceived}
use Rattle.plan.specs.Calls.{ReadPlanOutcome}

-- "all counts with it are 0"
unfoldable pub no_entries : PlanCounts
no_entries = plan_counts 0 0 0

-- what `receive_plan` answers: the receiver's value and counts, and the entries of the plan that is shown
unfoldable pub shown_value : Result PlanReceived Refusal → Value Reception
shown_value (Ok q) = gives (reception_of q.received.ending)
shown_value (Err f) = refusal f

unfoldable pub shown_counts : Result PlanReceived Refusal → Counts
shown_counts (Ok q) = q.received.counts
shown_counts (Err f) = no_counts

unfoldable pub shown_entries : Result PlanReceived Refusal → PlanCounts
shown_entries (Ok q) = unwrap_or q.entries no_entries
shown_entries (Err f) = no_entries

-- `receive_plan`: the receiver's refusals and Left as they are; 18 "after 14; then 4". "With both the receiver's memory stands as File leaves it."
pub data ReceivePlanOutcome (r : ℕ) (p : List ℕ) (m m' : Memory) (l l' : Lists) : Value Reception → Counts → PlanCounts → Type 0 where
  no_file :
      (v : Value Reception) (k : Counts) → ReceiveOutcome r p m m' v k → ((n : ℕ) → v ≢ gives (file n)) → l' ≡ l →
      ReceivePlanOutcome r p m m' l l' v k no_entries
  no_plan :
      (n : ℕ) (k : Counts) → ReceiveOutcome r p m m' (gives (file n)) k →
      (at : ℕ) → ReadPlanOutcome (take n m'.buffer) l l' (refused_at 18 at) →
      ReceivePlanOutcome r p m m' l l' (refused_at 18 at) no_counts no_entries
  no_room :
      (n : ℕ) (k : Counts) → ReceiveOutcome r p m m' (gives (file n)) k →
      ReadPlanOutcome (take n m'.buffer) l l' (refused 4) →
      ReceivePlanOutcome r p m m' l l' (refused 4) no_counts no_entries
  shown :
      (n : ℕ) (k : Counts) → ReceiveOutcome r p m m' (gives (file n)) k →
      (e : PlanCounts) → ReadPlanOutcome (take n m'.buffer) l l' (gives e) →
      ReceivePlanOutcome r p m m' l l' (gives (file n)) k e
