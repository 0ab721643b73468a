-- `plan_form::splices::kept` meets its contract.
use mathlib.Core.Path.{◌≡◌}
use Prim.Native.Nat.{ℕ, ◌<◌}
use Rattle.plan_form.specs.Entries.{entries, SpliceRule}
use Rattle.plan_form.specs.Inner.Checks.{Marks}
use Rattle.plan_form.proofs.splices.kept.Given as goal

abbrev pub invariant-loop-k : goal.invariant-loop-k
invariant-loop-k l =
    (l.marked.fibres ≡ l.fibres)
    × ((j : ℕ) → j < l.k → SpliceRule (entries l.fibres.bytes.now l.fibres.s.at) l.fibres.s.count (entries l.splices.bytes.now l.splices.s.at) j)
    × Marks (entries l.fibres.bytes.now l.fibres.s.at) l.fibres.s.count (entries l.splices.bytes.now l.splices.s.at) l.k l.above l.marked.marks
