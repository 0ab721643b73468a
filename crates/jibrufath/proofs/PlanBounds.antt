-- What the calls on plans name fits a word: an offset is below 2^45.
use mathlib.Core.List.{List}
use Prim.Native.Nat.{ℕ, ◌^◌, ◌<◌}
use native.Mathlib.Omega.{arith}
use native.Mathlib.Decide.{dec_lt}
use lib.ListN.{length, take, get_or-eq_default, length-take}
use lib.Seq.{get_or-take}
use Rattle.answer.specs.Values.{Value}
use Rattle.receiver.specs.declared.Counts.{Counts}
use Rattle.receiver.specs.Gathering.{Reception}
use Rattle.receiver.specs.Receive.{Memory}
use Rattle.plan_form.specs.declared.PlanCounts.{PlanCounts}
use Rattle.plan_form.specs.Entries.{Bytes}
use Rattle.plan_form.specs.Form.{Broken, FormOutcome, formed, broken, plan_with, plan_in, Lists, plan_of}
use Rattle.plan_form.proofs.Offsets.{broken-lt}
use Rattle.plan.specs.Calls.{WritePlanOutcome, write_inexact, write_broken, written, ReadPlanOutcome, read_broken, read_short, read_shown}
use Rattle.plan.specs.Receiving.{ReceivePlanOutcome, no_file, no_plan, no_room, shown}
use Rattle.jibrufath.specs.Exports.{beside, uncounted}
use Rattle.jibrufath.specs.Packs.{reception_left}
use Rattle.jibrufath.proofs.Places.{receive-place-lt}

offset-lt : (f : List ℕ) → Bytes f → {at : ℕ} → Broken (plan_in f) (length f) at → at < 2 ^ 45
unfolding plan_in plan_with
offset-lt f small b = broken-lt (plan_in f) (length f) small small b

pub write-plan-lt : {l : Lists} {before after : List ℕ} {v : Value Unit} → WritePlanOutcome l before after v → Bytes l.closures → Bytes l.fibres
    → beside uncounted v < 2 ^ 45
unfolding beside uncounted plan_of
write-plan-lt (write_inexact _ _) small small' = omega arith
write-plan-lt {l} (write_broken _ at b _) small small' = broken-lt (plan_of l) _ small small' b
write-plan-lt (written _ _ _) small small' = omega arith

pub measure-plan-lt : (f : List ℕ) {a : PlanCounts} {v : Value PlanCounts} → FormOutcome (plan_in f) (length f) a v → Bytes f → beside uncounted v < 2 ^ 45
unfolding beside uncounted
measure-plan-lt f (formed _) small = omega arith
measure-plan-lt f (broken at b) small = offset-lt f small b

pub read-plan-lt : {f : List ℕ} {l l' : Lists} {v : Value PlanCounts} → ReadPlanOutcome f l l' v → Bytes f → beside uncounted v < 2 ^ 45
unfolding beside uncounted
read-plan-lt {f} (read_broken at b _) small = offset-lt f small b
read-plan-lt (read_short _ _ _) small = omega arith
read-plan-lt (read_shown _ _ _) small = omega arith

take-small : (n : ℕ) (xs : List ℕ) → Bytes xs → Bytes (take n xs)
take-small n xs small i =
    elim (dec_lt i n) [
      | yes l ↦ rw (get_or-take n xs i 0 l) (small i)
      | no m ↦ rw (get_or-eq_default (take n xs) 0 {n = i} (omega (arith, length-take n xs))) (omega arith)
    ]

pub receive-plan-lt : {r : ℕ} {p : List ℕ} {m m' : Memory} {l l' : Lists} {v : Value Reception} {k : Counts} {e : PlanCounts} → ReceivePlanOutcome r p m m' l l' v k e
    → Bytes p → Bytes m'.buffer → beside reception_left v < 2 ^ 45
unfolding beside reception_left
receive-plan-lt (no_file _ _ o _ _) small small' = receive-place-lt o small
receive-plan-lt {m'} (no_plan n _ _ at (read_broken _ b _)) small small' = offset-lt (take n m'.buffer) (take-small n m'.buffer small') b
receive-plan-lt (no_room _ _ _ _) small small' = omega arith
receive-plan-lt (shown _ _ _ _ _) small small' = omega arith
