-- `jibrufath::plans::jibrufath_read_plan` meets its contract.
use native.Mathlib.Omega.{arith}
use mathlib.Core.Path.{◌∙◌}
use Prim.Native.Nat.{ℕ}
use Rattle.jibrufath.proofs.Endings.{entries-read}
use Rattle.jibrufath.proofs.PlanBounds.{read-plan-lt}
use Rattle.jibrufath.proofs.plans.jibrufath_read_plan.Goals as goal

pub answer_word-requires : goal.answer_word-requires
answer_word-requires c = read-plan-lt c.read_plan-read.ensures (λ (i : ℕ). omega (arith, c.shared_slice_known-1.given i))

pub returns : goal.returns
returns c = record { value = _; outcome = c.read_plan-read.ensures; word_packed = c.answer_word.ensures; entries_placed = c.entry_places.ensures ∙ rw c.ok.ensures.value (entries-read c.read_plan-read.result) }
