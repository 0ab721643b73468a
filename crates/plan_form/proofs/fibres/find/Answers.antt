-- `plan_form::fibres::find` meets its contract.
use native.Mathlib.Omega.{arith}
use Rattle.plan_form.specs.Entries.{closure_at}
use Rattle.plan_form.proofs.Walking.{walked_more, listed_here, listed-nowhere}
use Rattle.plan_form.proofs.fibres.find.Goals as goal

pub returns-then-closure-sought : goal.returns-then-closure-sought
unfolding closure_at
returns-then-closure-sought c =
    let walked = c.loop-r.invariant in
    (listed_here _ _ _ _ walked (omega arith) (omega (arith, c.half-closure.ensures, c.if-closure-sought.true)), walked)

pub returns-else-closure-sought : goal.returns-else-closure-sought
unfolding closure_at
returns-else-closure-sought c =
    listed-nowhere _ _ _ _ c.loop-r.invariant c.requires.1
    (λ less. omega (arith, c.half-closure.ensures, c.if-sought-closure.true, c.if-closure-sought.false))

pub loop-r-preserved : goal.loop-r-preserved
unfolding closure_at
loop-r-preserved c = walked_more _ _ _ _ c.loop-r.invariant (omega (arith, c.half-closure.ensures, c.if-sought-closure.false)) (omega arith)

pub returns : goal.returns
returns c = listed-nowhere _ _ _ _ c.loop-r.invariant c.requires.1 (λ less. absurd (omega (arith, c.loop-r-test.false)))
