-- `strip::Syndromes::step` takes one of Horner's steps for 64 lines.
use mathlib.Core.Path.{refl}
use native.Mathlib.Omega.{arith}
use lib.ListN.{length-set}
use Rattle.field.specs.Field.{add}
use Rattle.strip.proofs.Updated.{updated-more}
use Rattle.strip.proofs.Syndromes+64.step.Goals as goal

pub loop-t-preserved : goal.loop-t-preserved
unfolding add
loop-t-preserved c =
    let inv = c.loop-t.invariant in (
      simp length-set inv.0,
      simp length-set inv.1,
      λ e. updated-more (inv.2 e) _ _ (omega arith) (omega arith) refl refl,
      λ e. updated-more (inv.3 e) _ _ (omega arith) (omega arith) (rw c.xtime.ensures) refl,
    )
