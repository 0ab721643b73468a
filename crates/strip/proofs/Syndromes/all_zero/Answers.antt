-- `strip::Syndromes::all_zero` decides whether both lists begin with zeros: an or is 0 exactly when both sides are.
use Rattle.span.proofs.Joining.{joined-more, or-zero}
use Rattle.strip.proofs.Syndromes.all_zero.Goals as goal

pub loop-t-preserved : goal.loop-t-preserved
loop-t-preserved g c =
    joined-more _ _ _ _ c.loop-t.invariant (or-zero _ _) (λ (h0, h1). rw (h0, h1))
