-- `plan::write_plan` meets its contract.
use Rattle.std.proofs.lemmas.Result.{err_from_is_err_and}
use Rattle.span.proofs.Decision.{decides-false, decides-true}
use Rattle.plan.proofs.Answers.{write-unfit, write_refused, write-told}
use Rattle.plan.proofs.write_plan.Goals as goal

pub returns-then-not-fits : goal.returns-then-not-fits
returns-then-not-fits c = write-unfit _ _ _ _ (decides-false c.fits.ensures c.if-not-fits.true)

pub returns-in_err-check_lists : goal.returns-in_err-check_lists
returns-in_err-check_lists c =
    let (f, is, same) = err_from_is_err_and c.from_residual.result c.from_residual.ensures.1 in
    rw (is, same)
    (write_refused _ _ _ _ _ c.check_lists.ensures (decides-true c.fits.ensures c.if-not-fits.false) _ c.in_err-check_lists.was)

pub returns : goal.returns
returns c =
    let fit = decides-true c.fits.ensures c.if-not-fits.false in
    let judged = c.check_lists.ensures in
    write-told _ _ _ _ _ judged fit c.in_ok-check_lists.was _ c.put_plan.ensures
