-- `jibrufath::plans::jibrufath_write_plan` meets its contract.
use native.Mathlib.Omega.{arith}
use Prim.Native.Nat.{ℕ}
use Rattle.jibrufath.proofs.PlanBounds.{write-plan-lt}
use Rattle.jibrufath.proofs.plans.jibrufath_write_plan.Goals as goal

pub answer_word-requires : goal.answer_word-requires
answer_word-requires c = write-plan-lt c.write_plan.ensures (λ (i : ℕ). omega (arith, c.shared_slice_known-1.given i)) (λ (i : ℕ). omega (arith, c.shared_slice_known-2-1.given i))
