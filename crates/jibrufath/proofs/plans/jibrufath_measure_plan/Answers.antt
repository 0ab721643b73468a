-- `jibrufath::plans::jibrufath_measure_plan` meets its contract.
use native.Mathlib.Omega.{arith}
use mathlib.Core.Path.{◌∙◌}
use Prim.Native.Nat.{ℕ}
use Rattle.jibrufath.proofs.Endings.{entries-read}
use Rattle.jibrufath.proofs.PlanBounds.{measure-plan-lt}
use Rattle.jibrufath.proofs.plans.jibrufath_measure_plan.Goals as goal

pub answer_word-requires : goal.answer_word-requires
answer_word-requires c = measure-plan-lt _ c.measure_plan-read.ensures (λ (i : ℕ). omega (arith, c.shared_slice_known-1.given i))

pub returns : goal.returns
returns c = record { value = _; outcome = c.measure_plan-read.ensures; word_packed = c.answer_word.ensures; entries_placed = c.entry_places.ensures ∙ rw c.ok.ensures.value (entries-read c.measure_plan-read.result) }
