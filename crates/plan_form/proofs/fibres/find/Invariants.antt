-- `plan_form::fibres::find` meets its contract.
use Rattle.plan_form.specs.Entries.{entries}
use Rattle.plan_form.specs.Inner.Checks.{Walked}
use Rattle.plan_form.proofs.fibres.find.Given as goal

abbrev pub invariant-loop-r : goal.invariant-loop-r
invariant-loop-r l = Walked (entries l.closures.bytes.now l.closures.s.at) l.closures.s.count l.sought l.r
