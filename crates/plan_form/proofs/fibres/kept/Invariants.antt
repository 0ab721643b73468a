-- `plan_form::fibres::kept` meets its contract.
use Rattle.plan_form.specs.Entries.{entries}
use Rattle.plan_form.proofs.Walking.{FibresRead}
use Rattle.plan_form.proofs.fibres.kept.Given as goal

abbrev pub invariant-loop-k : goal.invariant-loop-k
invariant-loop-k l = FibresRead (entries l.closures.bytes.now l.closures.s.at) l.closures.s.count (entries l.fibres.bytes.now l.fibres.s.at) l.k l.least l.q
