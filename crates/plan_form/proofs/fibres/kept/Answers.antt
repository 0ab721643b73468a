-- `plan_form::fibres::kept` meets its contract.
use native.Mathlib.Omega.{arith}
use Rattle.plan_form.specs.Entries.{closure_of, fibre_number}
use Rattle.span.proofs.Decision.{decides-false, decides-true}
use Rattle.plan_form.proofs.Walking.{stopped, disordered, walked_here, unlisted, read_more}
use Rattle.plan_form.proofs.fibres.kept.Goals as goal

pub returns-then-not-in_order : goal.returns-then-not-in_order
unfolding closure_of fibre_number
returns-then-not-in_order c =
    let l = c.loop-k in
    stopped (omega arith) l.invariant.kept
    (disordered _ _ _ _ _ _ l.invariant _ _ c.half-closure.ensures.0 c.half-number.ensures.0 (decides-false c.in_order.ensures c.if-not-in_order.true))

pub find-requires : goal.find-requires
unfolding closure_of fibre_number
find-requires c =
    let l = c.loop-k in
    (walked_here _ _ _ _ _ _ l.invariant _ _ c.half-closure.ensures.0 c.half-number.ensures.0 (decides-true c.in_order.ensures c.if-not-in_order.false), c.requires)

pub returns-in_default : goal.returns-in_default
unfolding closure_of fibre_number
returns-in_default c =
    let l = c.loop-k in
    stopped (omega arith) l.invariant.kept
    (unlisted _ _ _ _ _ _ l.invariant _ _ c.half-closure.ensures.0 c.half-number.ensures.0 c.in_default.ensures)

pub loop-k-preserved : goal.loop-k-preserved
unfolding closure_of fibre_number
loop-k-preserved c =
    read_more _ _ _ _ _ _ c.loop-k.invariant _ _ c.half-closure.ensures.0 c.half-number.ensures.0
    (decides-true c.in_order.ensures c.if-not-in_order.false) c.in-Some.ensures.0 _ c.in-Some.ensures.1
