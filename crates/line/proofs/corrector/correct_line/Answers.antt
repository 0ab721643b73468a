-- `line::corrector::correct_line` corrects one line of a run.
use mathlib.Core.Path.{subst}
use Prim.Native.Nat.{◌+◌, ◌*◌, ◌≤◌}
use native.Mathlib.Omega.{arith}
use lib.ListN.{length}
use Rattle.std.specs.Prelude.{Some}
use Rattle.solver.specs.Solver.{PlaceOutcome}
use Rattle.line.proofs.Correction.{corrected-nowhere, corrected-found}
use Rattle.line.proofs.corrector.correct_line.Goals as goal
use Rattle.line.proofs.corrector.correct_line.Goals.{In-Some, Start}

-- the place that was found
found :
    (c : In-Some) →
    PlaceOutcome c.args.reduction c.args.v0 c.args.v1 c.args.run.len (Some c.in-Some.j)
found c = subst (PlaceOutcome _ _ _ _) c.in-Some.is c.error_place.ensures

strip :
    (c : In-Some) →
    c.args.run.first + c.args.run.stride * c.in-Some.j + c.args.run.width ≤ length c.args.s.now
unfolding PlaceOutcome
strip c = c.requires.0.fits c.in-Some.j (found c).0.below

pub returns-in_default : goal.returns-in_default
unfolding PlaceOutcome
returns-in_default c =
    corrected-nowhere _ _ _ _ _ _ c.requires.2 c.requires.3
    (subst (PlaceOutcome _ _ _ _) c.in_default.is c.error_place.ensures)

pub overflow_mul-p : goal.overflow_mul-p
overflow_mul-p c = omega (arith, strip (goal.at.overflow_mul-p c).In-Some)

pub overflow_add-p : goal.overflow_add-p
overflow_add-p c = omega (arith, strip (goal.at.overflow_add-p c).In-Some)

pub overflow_add-p-2 : goal.overflow_add-p-2
overflow_add-p-2 c = omega (arith, strip (goal.at.overflow_add-p-2 c).In-Some)

pub bounds-s-p : goal.bounds-s-p
bounds-s-p c = omega (arith, strip (goal.at.bounds-s-p c).In-Some)

pub bounds-s-p-2 : goal.bounds-s-p-2
bounds-s-p-2 c = omega (arith, strip (goal.at.bounds-s-p-2 c).In-Some)

pub returns : goal.returns
unfolding PlaceOutcome
returns c =
    let start = (goal.at.returns c).Start in
    corrected-found _ _ _ _ _ _ start.requires.2 start.requires.3 _ _ start.requires.0 start.requires.1 (found (goal.at.returns c).In-Some)
    c.add.ensures
