-- `plan_form::closures::kept` meets its contract.
use native.Mathlib.Omega.{arith}
use Rattle.plan_form.specs.Entries.{closure_at}
use Rattle.plan_form.proofs.Walking.{stopped, closure-broken, closures-more}
use Rattle.plan_form.proofs.closures.kept.Goals as goal

pub returns-then-number-least : goal.returns-then-number-least
unfolding closure_at
returns-then-number-least c =
    let l = c.loop-k in
    stopped (omega arith) l.invariant.kept (closure-broken _ _ _ l.invariant (omega (arith, c.half-number.ensures)))

pub loop-k-preserved : goal.loop-k-preserved
unfolding closure_at
loop-k-preserved c =
    rw c.half-number.ensures.0 (closures-more _ _ _ c.loop-k.invariant (omega (arith, c.half-number.ensures)))
