-- From the receiver's outcome, and the outcome of reading its file, to the outcome of receiving a plan.
use Rattle.std.specs.Prelude.{Result, Ok, Err, Some, None}
use mathlib.Core.Path.{◌≡◌, refl, sym, ap}
use mathlib.Core.List.{List}
use Prim.Native.Nat.{ℕ, ◌≤◌}
use native.Mathlib.Omega.{arith}
use lib.ListN.{length, take, drop, length-append}
use Rattle.answer.specs.declared.Refusal.{Refusal}
use Rattle.answer.specs.declared.Refusal.TheVariants.{Plain, Entry}
use Rattle.answer.specs.declared.Fault.TheVariants.{SliceLength}
use Rattle.answer.specs.Refusals.{fault_number}
use Rattle.answer.specs.Values.{Value, gives, refusal, value_of}
use Rattle.answer.proofs.Values.{gives-injective, refusal-gives, refusal-injective}
use Rattle.shape.specs.declared.Shape.{Shape}
use Rattle.receiver.specs.declared.Counts.{Counts}
use Rattle.receiver.specs.declared.Received.{Received}
use Rattle.receiver.specs.declared.Ending.TheVariants.{File, Left}
use Rattle.receiver.specs.Gathering.{Reception, file, left, unfit, index, contradiction, some_left, no_counts}
use Rattle.receiver.specs.Opening.{OpenOutcome, held, bad}
use Rattle.receiver.specs.Receive.{Memory, reception_of, received_value, received_counts, ReceiveOutcome, unopened, bad_file, opened}
use Rattle.plan_form.specs.declared.PlanCounts.{PlanCounts}
use Rattle.plan_form.specs.Form.{Lists}
use Rattle.plan.specs.declared.PlanReceived.{PlanReceived}
use Rattle.plan.specs.Calls.{ReadPlanOutcome, read_broken, read_short, read_shown}
use Rattle.plan.specs.Receiving.{no_entries, shown_value, shown_counts, shown_entries, ReceivePlanOutcome, no_file, no_plan, no_room, shown}

-- a file that was opened lies in its buffer
module _ {sh : Shape} {xs bs bs' : List ℕ} where
  held-inside : {v : Value ℕ} → OpenOutcome sh xs bs bs' v → (n : ℕ) → v ≡ gives n → n ≤ length bs'
  held-inside (held contents _ _ e) n q =
      let same : length contents ≡ n = gives-injective (length contents) n q in
      omega (arith, ap length e, length-append contents (drop (length contents) bs))
  held-inside (bad _ _) n q = let z : ◌≡◌ {A = ℕ} 0 1 = cc in absurd (omega arith)

module _ {r : ℕ} {p : List ℕ} {m m' : Memory} where
  pub file-inside : {v : Value Reception} {k : Counts} → ReceiveOutcome r p m m' v k → (n : ℕ) → v ≡ gives (file n) → n ≤ length m'.buffer
  file-inside (unopened _ _ (unfit _ _ _ _) _) n q = let z : ◌≡◌ {A = ℕ} 0 1 = cc in absurd (omega arith)
  file-inside (unopened _ _ (index _ _ _ _ _ _ _ _ _) _) n q = let z : ◌≡◌ {A = ℕ} 0 1 = cc in absurd (omega arith)
  file-inside (unopened _ _ (contradiction _ _ _ _ _ _ _) _) n q = let z : ◌≡◌ {A = ℕ} 0 1 = cc in absurd (omega arith)
  file-inside (unopened _ _ (some_left _ _ _ _ _ _ _ _ _) _) n q = let z : ◌≡◌ {A = ℕ} 0 1 = cc in absurd (omega arith)
  file-inside (bad_file _ _ _ _ _ _) n q = let z : ◌≡◌ {A = ℕ} 0 1 = cc in absurd (omega arith)
  file-inside (opened _ _ _ _ _ _ contents) n q = held-inside contents n (ap gives cc)

  module _ (a : Result Received Refusal) (o : ReceiveOutcome r p m m' (received_value a) (received_counts a)) where
    -- ---- no file

    pub refused-passed : (f : Refusal) (end : Result PlanReceived Refusal) → a ≡ Err f → end ≡ Err f → (l : Lists)
        → ReceivePlanOutcome r p m m' l l (shown_value end) (shown_counts end) (shown_entries end)
    unfolding received_value received_counts shown_value shown_counts shown_entries
    refused-passed f end e is l = rw is (no_file (refusal f) no_counts (rw e at o) (λ k same. refusal-gives f (file k) same) refl)

    module _ (received : Received) (e : a ≡ Ok received) where
      came : ReceiveOutcome r p m m' (gives (reception_of received.ending)) received.counts
      unfolding received_value received_counts
      came = rw e at o

      pub left-passed : (n : ℕ) (q : PlanReceived) → received.ending ≡ Left n → q ≡ record { received = received; entries = None } → (l : Lists)
          → ReceivePlanOutcome r p m m' l l (shown_value (Ok q)) (shown_counts (Ok q)) (shown_entries (Ok q))
      unfolding shown_value shown_counts shown_entries reception_of
      left-passed n q is same l =
          rw same (no_file _ _ came (λ k named. let other : gives (left n) ≡ gives (file k) = rw is at named in let z : ◌≡◌ {A = ℕ} 0 1 = cc in omega arith) refl)

      -- ---- a file of n bytes, read as a plan

      module _ (n : ℕ) (is : received.ending ≡ File n) where
        filed : ReceiveOutcome r p m m' (gives (file n)) received.counts
        unfolding reception_of
        filed = rw is at came

        pub file-le : n ≤ length m'.buffer
        file-le = file-inside filed n refl

        not-shown : {l l' : Lists} {v : Value PlanCounts} → ReadPlanOutcome (take n m'.buffer) l l' v → (f : Refusal) → v ≡ refusal f
            → ReceivePlanOutcome r p m m' l l' (refusal f) no_counts no_entries
        unfolding refusal fault_number
        not-shown (read_broken at b e) f q = rw (sym (refusal-injective (Entry at) f q)) (no_plan n received.counts filed at (read_broken at b e))
        not-shown (read_short plan room e) f q =
            rw (sym (refusal-injective (Plain SliceLength) f q)) (no_room n received.counts filed (read_short plan room e))
        not-shown (read_shown _ _ _) f q = absurd (refusal-gives f _ (sym q))

        module _ {l l' : Lists} (read : Result PlanCounts Refusal) (outcome : ReadPlanOutcome (take n m'.buffer) l l' (value_of read)) where
          pub plan-refused : (f : Refusal) (end : Result PlanReceived Refusal) → read ≡ Err f → end ≡ Err f
              → ReceivePlanOutcome r p m m' l l' (shown_value end) (shown_counts end) (shown_entries end)
          unfolding value_of shown_value shown_counts shown_entries
          plan-refused f end b same = rw same (not-shown (rw b at outcome) f refl)

          pub plan-shown : (entries : PlanCounts) → read ≡ Ok entries
              → let end : Result PlanReceived Refusal = Ok (record { received = received; entries = Some entries }) in
              ReceivePlanOutcome r p m m' l l' (shown_value end) (shown_counts end) (shown_entries end)
          unfolding value_of shown_value shown_counts shown_entries reception_of
          plan-shown entries b = rw is (shown n received.counts filed entries (rw b at outcome))
