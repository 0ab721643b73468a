-- `jibrufath::plans::jibrufath_receive_plan` meets its contract.
use native.Mathlib.Omega.{arith}
use mathlib.Core.Path.{refl}
use Prim.Native.Nat.{ℕ}
use Rattle.plan.specs.Receiving.{shown_value, shown_counts, shown_entries, no_entries}
use Rattle.jibrufath.specs.Packs.{reception_left}
use Rattle.jibrufath.specs.Plans.{entry_places}
use Rattle.jibrufath.proofs.Words.{refusal-beside, refused-packed}
use Rattle.jibrufath.proofs.Endings.{refused-places}
use Rattle.jibrufath.proofs.PlanBounds.{receive-plan-lt}
use Rattle.jibrufath.proofs.plans.jibrufath_receive_plan.Goals as goal

pub refusal_word-requires : goal.refusal_word-requires
unfolding shown_value
refusal_word-requires c =
    omega (
      arith,
      refusal-beside reception_left c.in-Err.f,
      receive-plan-lt c.in-Err.ensures (λ (i : ℕ). omega (arith, c.type_inv.air i)) (λ (i : ℕ). omega (arith, c.type_inv.file i)),
    )

pub returns-in-Err : goal.returns-in-Err
unfolding shown_value shown_counts shown_entries entry_places no_entries
returns-in-Err c =
    record {
      value = _;
      counted = _;
      shown = no_entries;
      outcome = c.in-Err.ensures;
      word_packed = refused-packed reception_left _ c.in-Err.f refl _ c.refusal_word.ensures;
      counts_placed = refused-places c.in-Err.f;
      entries_placed = refl;
    }

pub ending_word-requires : goal.ending_word-requires
unfolding shown_value
ending_word-requires c =
    receive-plan-lt c.in-Ok.ensures (λ (i : ℕ). omega (arith, c.type_inv.air i)) (λ (i : ℕ). omega (arith, c.type_inv.file i))

pub returns-in-Ok : goal.returns-in-Ok
unfolding shown_value shown_counts shown_entries
returns-in-Ok c =
    record {
      value = _;
      counted = _;
      shown = _;
      outcome = c.in-Ok.ensures;
      word_packed = c.ending_word.ensures;
      counts_placed = c.receive_counts.ensures;
      entries_placed = c.entry_places.ensures;
    }
