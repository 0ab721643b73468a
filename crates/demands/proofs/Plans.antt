-- A plan that was written, packed and heard with losses, from the third demand and the plan's round trip; and that receiving one is determined.
use mathlib.Core.Path.{◌≡◌, refl, ap}
use mathlib.Core.List.{List}
use Prim.Native.Nat.{ℕ}
use native.Mathlib.Omega.{arith}
use lib.ListN.{length, take, drop}
use lib.Seq.{take-append_seam}
use Rattle.answer.specs.Values.{Value, gives}
use Rattle.answer.proofs.Values.{gives-injective}
use Rattle.field.specs.Field.{reduction}
use Rattle.pack.specs.declared.Header.{Header}
use Rattle.pack.specs.Packs.{Packet, air_pack}
use Rattle.receiver.specs.declared.Counts.{Counts}
use Rattle.receiver.specs.Gathering.{Reception, file}
use Rattle.receiver.specs.Receive.{Memory, ReceiveOutcome}
use Rattle.receiver.proofs.Determined.{nothing-left-open}
use Rattle.plan_form.specs.declared.PlanCounts.{PlanCounts}
use Rattle.plan_form.specs.Form.{Lists, counts_of}
use Rattle.plan.specs.Calls.{WritePlanOutcome, Room, lists_begun, ReadPlanOutcome}
use Rattle.plan.specs.Receiving.{ReceivePlanOutcome, no_file, no_plan, no_room, shown}
use Rattle.plan.specs.Theorems.{ListBytes, UndoWrite, PlanNothingLeftOpen, ReceiveDetermined}
use Rattle.plan.proofs.RoundTrip.{undo-write}
use Rattle.plan.proofs.Determined.{receive-determined}
use Rattle.demands.specs.Demand3.{lost, OnlyEmpty, left_in, Exact, Demand3, Demanded}
use Rattle.demands.specs.Plans.{PlanBack, PlanKept, PlanDemand}
use Rattle.demands.proofs.Demand3.{demand3}

abbrev Claim : Header → List Packet → Lists → ℕ → Lists → Lists → Value Reception → PlanCounts → Type 0
Claim h ps l size lent lent' value entries =
    (OnlyEmpty h.shape (lost h ps) → PlanBack l lent lent' size value entries)
    × ((OnlyEmpty h.shape (lost h ps) → ⊥) → PlanKept lent lent' value entries)

module _ (l : Lists) (before f : List ℕ) (small : ListBytes l) (plan : WritePlanOutcome l before f (gives tt)) {h : Header} {x : List ℕ} {ps : List Packet}
    {m m' : Memory} where
  -- ---- where the receiver has a file

  module _ (n : ℕ) (k : Counts) (e : Exact h f x ps (lost h ps) m m' (gives (file n)) k) where
    file-same : (n ≡ length f) × (take n m'.buffer ≡ f)
    unfolding left_in
    file-same =
        let (same, begins) = e.file_back refl in
        let size : n ≡ length f = cc in
        (size, rw (size, begins) (take-append_seam f (drop (length f) m.buffer)))

    nothing-lost : OnlyEmpty h.shape (lost h ps)
    unfolding left_in
    nothing-lost = e.none_exactly.0 refl

    plan-read : {lent lent' : Lists} (v : Value PlanCounts) → Room l lent → ReadPlanOutcome (take n m'.buffer) lent lent' v
        → (v ≡ gives (counts_of l)) × (lent' ≡ lists_begun l lent)
    unfolding UndoWrite
    plan-read v room read = undo-write l before f _ _ v small plan room (rw file-same.1 at read)

  -- ---- each outcome

  heard : {lent lent' : Lists} {value : Value Reception} {counts : Counts} {entries : PlanCounts}
      → ((v : Value Reception) (k : Counts) → ReceiveOutcome reduction (air_pack h ps) m m' v k → Exact h f x ps (lost h ps) m m' v k)
      → Room l lent → ReceivePlanOutcome reduction (air_pack h ps) m m' lent lent' value counts entries → Claim h ps l (length f) lent lent' value entries
  heard exact room (no_file v k o none kept) =
      let e = exact v k o in (
        λ empty. absurd (none (length f) (e.file_back (e.none_exactly.1 empty)).0),
        λ some.
            let (many, is, _) = e.otherwise (λ zero. some (e.none_exactly.0 zero)) in
            record { answered = is; many = many; none = refl; kept = kept },
      )
  heard exact room (no_plan n k o at read) = let (is, _) = plan-read n k (exact _ k o) _ room read in let z : ◌≡◌ {A = ℕ} 0 1 = cc in absurd (omega arith)
  heard exact room (no_room n k o read) = let (is, _) = plan-read n k (exact _ k o) _ room read in let z : ◌≡◌ {A = ℕ} 0 1 = cc in absurd (omega arith)
  heard exact room (shown n k o entries read) =
      let e = exact _ k o in
      let (is, begun) = plan-read n k e _ room read in (
        λ _. record { answered = ap (λ (size : ℕ). gives (file size)) (file-same n k e).0; counted = gives-injective entries (counts_of l) is; begun = begun },
        λ some. absurd (some (nothing-lost n k e)),
      )

pub plan-demand : PlanDemand
unfolding PlanDemand Demand3 Demanded
plan-demand l before f small plan p h x output wrote =
    let (s, all, claim) = demand3 p h f x output wrote in (
      s,
      all,
      λ ps m m' lent lent' value counts entries sent sizes room o.
          heard l before f small plan (λ v k. claim ps m m' v k sent sizes) room o,
    )

-- the contract of receiving a plan leaves nothing open, as the receiver's does not
pub plan-nothing-left-open : PlanNothingLeftOpen
unfolding ReceiveDetermined
plan-nothing-left-open = receive-determined nothing-left-open
