-- The exported calls on plans: the counts of a plan's entries stand in three places of their own beside the word.
use Rattle.std.specs.Prelude.{◌≡◌, List, [], ◌∷◌, ℕ, replicate}
use Rattle.answer.specs.Values.{Value, gives, refused, refused_at}
use Rattle.receiver.specs.declared.Counts.{Counts}
use Rattle.receiver.specs.Gathering.{Reception}
use Rattle.plan_form.specs.declared.PlanCounts.{PlanCounts}
use Rattle.jibrufath.specs.Exports.{packed, uncounted}
use Rattle.jibrufath.specs.Packs.{reception_left, places}

-- "A plan shown answers its three counts"
unfoldable pub entry_places : PlanCounts → List ℕ
entry_places n = n.closures ∷ n.fibres ∷ n.splices ∷ []

-- "all counts with it are 0"
unfoldable pub entries_in : Value PlanCounts → List ℕ
entries_in (gives n) = entry_places n
entries_in (refused n) = replicate 3 0
entries_in (refused_at n i) = replicate 3 0

-- What `jibrufath_measure_plan` and `jibrufath_read_plan` answer.
pub record PlanExport (Outcome : Value PlanCounts → Type 0) (entries : List ℕ) (word : ℕ) : Type 0 where
  pub value : Value PlanCounts
  pub outcome : Outcome value
  pub word_packed : word ≡ packed uncounted value
  pub entries_placed : entries ≡ entries_in value

-- What `jibrufath_receive_plan` answers: the receiver's word and counts, and the entries of the plan shown.
pub record ReceivePlanExport (Outcome : Value Reception → Counts → PlanCounts → Type 0) (counts entries : List ℕ) (word : ℕ) : Type 0 where
  pub value : Value Reception
  pub counted : Counts
  pub shown : PlanCounts
  pub outcome : Outcome value counted shown
  pub word_packed : word ≡ packed reception_left value
  pub counts_placed : counts ≡ places value counted
  pub entries_placed : entries ≡ entry_places shown
