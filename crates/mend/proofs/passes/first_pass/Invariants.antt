-- `mend::passes::first_pass` meets its contract. The invariant: the rows below m of the second cube are the corrected rows of the first. Assumes
-- nothing.
use Rattle.mend.proofs.Rows.{RowsThrough}
use Rattle.mend.proofs.passes.first_pass.Given as goal

abbrev pub invariant-loop-m : goal.invariant-loop-m
invariant-loop-m l = RowsThrough l.reduction l.w l.l1 l.m l.cube l.second
