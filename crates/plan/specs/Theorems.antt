-- What request P4 says of plans, as theorems about the contracts; proofs/RoundTrip.antt, proofs/NoneLeft.antt and proofs/Determined.antt have the
-- proofs.
use Rattle.std.specs.Prelude.{◌≡◌, List, ◌≢◌, ℕ, ◌*◌, length, get_or, take}
use Rattle.answer.specs.Values.{Value, gives}
use Rattle.field.specs.Field.{Primitive}
use Rattle.receiver.specs.declared.Counts.{Counts}
use Rattle.receiver.specs.Gathering.{Reception, file}
use Rattle.receiver.specs.Receive.{Memory}
use Rattle.receiver.specs.Theorems.{NothingLeftOpen}
use Rattle.plan_form.specs.declared.PlanCounts.{PlanCounts}
use Rattle.plan_form.specs.Entries.{Bytes}
use Rattle.plan_form.specs.Form.{Lists, lists, counts_of, plan_bytes}
use Rattle.plan_form.specs.Theorems.{one_plan}
use Rattle.plan.specs.Calls.{WritePlanOutcome, Room, lists_begun, ReadPlanOutcome}
use Rattle.plan.specs.Receiving.{no_entries, ReceivePlanOutcome}

-- every element of the lists is a byte
pub record ListBytes (l : Lists) : Type 0 where
  pub closures : Bytes l.closures
  pub fibres : Bytes l.fibres
  pub splices : Bytes l.splices

-- there are plans to be written, so that what follows says something: one of a splice, over any 30 bytes
unfoldable pub OneWritten : Type 0
OneWritten = ListBytes one_plan × ((before : List ℕ) → length before ≡ 30 → WritePlanOutcome one_plan before (plan_bytes one_plan) (gives tt))

-- "The plan's writer and reader undo each other": what was written is shown, the entries as they were ...
unfoldable pub UndoWrite : Type 0
UndoWrite =
    (l : Lists) (before f : List ℕ) (lent lent' : Lists) (v : Value PlanCounts) → ListBytes l → WritePlanOutcome l before f (gives tt) →
    Room l lent → ReadPlanOutcome f lent lent' v → (v ≡ gives (counts_of l)) × (lent' ≡ lists_begun l lent)

-- ... and what was shown is written to the same file.
unfoldable pub first_entries : PlanCounts → Lists → Lists
first_entries n l = lists (take (2 * n.closures) l.closures) (take (4 * n.fibres) l.fibres) (take (8 * n.splices) l.splices)

unfoldable pub UndoRead : Type 0
UndoRead =
    (f : List ℕ) (lent lent' : Lists) (n : PlanCounts) (before after : List ℕ) (v : Value Unit) → Bytes f → ReadPlanOutcome f lent lent' (gives n) →
    WritePlanOutcome (first_entries n lent') before after v → length before ≡ length f → (v ≡ gives tt) × (after ≡ f)

-- "no pack with a place left shows a plan": where a flag says missing, the answer is no file, no list has changed and
-- no entries are counted
unfoldable pub NoneLeft : Type 0
NoneLeft =
    (r : ℕ) (p : List ℕ) (m m' : Memory) (l l' : Lists) (v : Value Reception) (k : Counts) (e : PlanCounts) →
    ReceivePlanOutcome r p m m' l l' v k e → (i : ℕ) → get_or m'.flags i 0 ≡ 1 →
    ((n : ℕ) → v ≢ gives (file n)) × (l' ≡ l) × (e ≡ no_entries)

-- "nothing is left open": the contracts determine answers and lists
unfoldable pub WriteDetermined : Type 0
WriteDetermined =
    (l : Lists) (before a b : List ℕ) (v w : Value Unit) → WritePlanOutcome l before a v → WritePlanOutcome l before b w → (v ≡ w) × (a ≡ b)

unfoldable pub ReadDetermined : Type 0
ReadDetermined =
    (f : List ℕ) (l a b : Lists) (v w : Value PlanCounts) → ReadPlanOutcome f l a v → ReadPlanOutcome f l b w → (v ≡ w) × (a ≡ b)

unfoldable pub PlanNothingLeftOpen : Type 0
PlanNothingLeftOpen =
    (r : ℕ) → Primitive r → (p : List ℕ) (m a b : Memory) (l x y : Lists) (v w : Value Reception) (k j : Counts) (e d : PlanCounts) →
    ReceivePlanOutcome r p m a l x v k e → ReceivePlanOutcome r p m b l y w j d →
    (v ≡ w) × (k ≡ j) × (e ≡ d) × (a ≡ b) × (x ≡ y)

-- The receiver's own theorem is a hypothesis here, since this crate cites the receiver's definitions alone; the crate `demands` discharges it.
unfoldable pub ReceiveDetermined : Type 0
ReceiveDetermined = NothingLeftOpen → PlanNothingLeftOpen
