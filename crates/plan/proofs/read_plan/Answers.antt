-- `plan::read_plan` meets its contract.
use native.Mathlib.Omega.{arith}
use Rattle.std.proofs.lemmas.Result.{err_from_is_err_and}
use Rattle.span.proofs.Decision.{decides-false, decides-true}
use Rattle.plan.proofs.Answers.{counted-end, read_refused, read-unfit, read_told}
use Rattle.plan.proofs.read_plan.Goals as goal

pub room-requires : goal.room-requires
room-requires c = omega (arith, counted-end _ _ c.measure_plan.ensures _ c.in_ok-n.was)

pub returns-then-not-room : goal.returns-then-not-room
returns-then-not-room c = read-unfit _ _ c.measure_plan.ensures _ c.in_ok-n.was _ _ _ (decides-false c.room.ensures c.if-not-room.true)

pub show-requires : goal.show-requires
show-requires c =
    let enough = decides-true c.room.ensures c.if-not-room.false in
    (counted-end _ _ c.measure_plan.ensures _ c.in_ok-n.was, enough.0, enough.1, enough.2)

pub returns-in_err-n : goal.returns-in_err-n
returns-in_err-n c =
    let (f, is, same) = err_from_is_err_and c.from_residual.result c.from_residual.ensures.1 in
    rw (is, same) (read_refused _ _ c.measure_plan.ensures _ c.in_err-n.was _)

pub returns : goal.returns
returns c =
    let enough = decides-true c.room.ensures c.if-not-room.false in
    let shown = c.show.ensures in
    read_told _ _ c.measure_plan.ensures _ c.in_ok-n.was _ _ _ enough _ _ _ shown.0 shown.1 shown.2
