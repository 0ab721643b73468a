-- Request P4 with the third demand: a plan that was written, packed and heard with losses is shown exactly where no stopping set is lost.
use Rattle.std.specs.Prelude.{◌≡◌, List, ℕ, ◌≤◌, length}
use Rattle.answer.specs.Values.{Value, gives}
use Rattle.field.specs.Field.{reduction}
use Rattle.pack.specs.declared.Header.{Header}
use Rattle.pack.specs.declared.Section.{Section}
use Rattle.pack.specs.Packs.{Packet, air_pack}
use Rattle.receiver.specs.declared.Counts.{Counts}
use Rattle.receiver.specs.Gathering.{Reception, file, left}
use Rattle.receiver.specs.Receive.{Memory}
use Rattle.plan_form.specs.declared.PlanCounts.{PlanCounts}
use Rattle.plan_form.specs.Form.{Lists, counts_of}
use Rattle.plan.specs.Calls.{WritePlanOutcome, Room, lists_begun}
use Rattle.plan.specs.Receiving.{no_entries, ReceivePlanOutcome}
use Rattle.plan.specs.Theorems.{ListBytes}
use Rattle.demands.specs.Demand3.{Wrote, AllWritten, Heard, lost, OnlyEmpty, Lent, left_in}

-- "A plan shown answers its three counts, and its entries begin the lists, the rest kept"
pub record PlanBack (l lent lent' : Lists) (size : ℕ) (value : Value Reception) (entries : PlanCounts) : Type 0 where
  pub answered : value ≡ gives (file size)
  pub counted : entries ≡ counts_of l
  pub begun : lent' ≡ lists_begun l lent

-- "otherwise no list changes"
pub record PlanKept (lent lent' : Lists) (value : Value Reception) (entries : PlanCounts) : Type 0 where
  pub answered : value ≡ gives (left (left_in value))
  pub many : 27 ≤ left_in value
  pub none : entries ≡ no_entries
  pub kept : lent' ≡ lent

-- The lists l are written to the file f, f to packets, and any list of those is heard, as the third demand has it, with room for the entries.
unfoldable pub PlanDemand : Type 0
PlanDemand =
    (l : Lists) (before f : List ℕ) → ListBytes l → WritePlanOutcome l before f (gives tt) →
    (p : List ℕ) (h : Header) (x output : List ℕ) → Wrote p h f x output →
    (s : Section) × AllWritten h f x output s
    × ((ps : List Packet) (m m' : Memory) (lent lent' : Lists) (value : Value Reception) (counts : Counts) (entries : PlanCounts) →
    Heard h output s ps → Lent h.shape m → Room l lent →
    ReceivePlanOutcome reduction (air_pack h ps) m m' lent lent' value counts entries →
    (OnlyEmpty h.shape (lost h ps) → PlanBack l lent lent' (length f) value entries)
    × ((OnlyEmpty h.shape (lost h ps) → ⊥) → PlanKept lent lent' value entries))
