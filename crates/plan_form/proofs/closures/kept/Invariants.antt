-- `plan_form::closures::kept` meets its contract.
use Rattle.plan_form.specs.Entries.{entries}
use Rattle.plan_form.proofs.Walking.{ClosuresRead}
use Rattle.plan_form.proofs.closures.kept.Given as goal

abbrev pub invariant-loop-k : goal.invariant-loop-k
invariant-loop-k l = ClosuresRead (entries l.closures.bytes.now l.closures.s.at) l.k l.least
