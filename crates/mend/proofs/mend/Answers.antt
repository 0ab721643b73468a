-- `mend::mend` meets its contract. Assumes nothing.
use Rattle.std.specs.Result.{result_unwrap_or}
use Rattle.answer.proofs.Values.{value-passed}
use mathlib.Core.Path.{◌≡◌, sym, ap, ◌∙◌}
use mathlib.Core.Bool.{false}
use Prim.Native.Nat.{ℕ}
use native.Mathlib.Omega.{arith}
use lib.ListN.{length, replicate}
use Rattle.field.specs.Field.{reduction}
use Rattle.answer.specs.Refusals.{fault_number}
use Rattle.answer.specs.Values.{passes, refusal, value_of}
use Rattle.span.specs.Decision.{Decides}
use Rattle.span.proofs.Decision.{decides-false}
use Rattle.cube.specs.Cube.{CodeCube}
use Rattle.cube.proofs.Checking.{check-decided}
use Rattle.mend.specs.Mend.{Passes, mend_checked, mend_done, mend_uncorrected}
use Rattle.mend.proofs.Checks.{MendReady, mend-ready}
use Rattle.mend.proofs.Outcomes.{mend-unfit}
use Rattle.mend.proofs.mend.Goals as goal
use Rattle.mend.proofs.mend.Goals.{After-pass-2, After-is_code_cube, In_ok-check}

-- the checks pass
done-here : (c : In_ok-check)
    → let a = c.args in
    mend_checked a.sh (length a.cube.now) a.flags.now (length a.second.now) ≡ passes tt
done-here c = value-passed _ _ _ c.check.ensures c.in_ok-check.was

mend-ready-here : (c : In_ok-check)
    → let a = c.args in
    MendReady a.sh (length a.cube.now) (length a.second.now)
mend-ready-here c = mend-ready _ _ _ _ (done-here c)

-- the three passes, of which the first goes from the cube to the second
passes-here : (c : After-pass-2)
    → let a = c.args in Passes reduction a.sh a.cube.now c.pass-2.new.cube
passes-here c =
    let first = c.first_pass in
    let second = c.pass in
    let polynomial = c.reduction-reduction.ensures in
    record {
      after1 = first.new.second;
      after2 = second.new.cube;
      pass1 = rw polynomial at first.ensures;
      pass2 = rw polynomial at second.ensures;
      pass3 = rw polynomial at c.pass-2.ensures;
    }

-- the answer of the last check
decides-here : (c : After-is_code_cube)
    → let a = c.args in Decides (CodeCube reduction a.sh c.pass-2.new.cube) (result_unwrap_or c.is_code_cube.result false)
decides-here c =
    let ok = mend-ready _ _ _ _ (value-passed _ _ _ c.check.ensures c.in_ok-check.was) in
    check-decided _ _ _ ok.valid (c.pass-2.auto.cube ∙ c.pass.auto.cube ∙ c.first_pass.auto.second ∙ ok.room) _ c.is_code_cube.ensures

pub returns-in_err-check : goal.returns-in_err-check
returns-in_err-check c = mend-unfit _ _ _ _ _ _ _ _ c.check.ensures c.in_err-check.was c.from_residual.ensures.1

pub first_pass-requires : goal.first_pass-requires
first_pass-requires c = let ok = mend-ready-here (goal.at.first_pass-requires c).In_ok-check in (record { valid = ok.valid; size = ok.size }, record { valid = ok.valid; size = ok.room })

pub pass-requires : goal.pass-requires
pass-requires c =
    let ok = mend-ready-here (goal.at.pass-requires c).In_ok-check in
    (record { valid = ok.valid; size = c.first_pass.auto.second ∙ ok.room }, (omega arith, omega arith))

pub pass-requires-2 : goal.pass-requires-2
pass-requires-2 c =
    let ok = mend-ready-here (goal.at.pass-requires-2 c).In_ok-check in
    let first = c.first_pass in
    (record { valid = ok.valid; size = c.pass.auto.cube ∙ first.auto.second ∙ ok.room }, (omega arith, omega arith))

pub returns-then-unwrap_or : goal.returns-then-unwrap_or
unfolding value_of
returns-then-unwrap_or c =
    let here = decides-here (goal.at.returns-then-unwrap_or c).After-is_code_cube in
    mend_done (done-here (goal.at.returns-then-unwrap_or c).In_ok-check) (passes-here (goal.at.returns-then-unwrap_or c).After-pass-2)
    (here.yes_then (sym c.unwrap_or.ensures ∙ c.if-unwrap_or.true))

pub returns-else-unwrap_or : goal.returns-else-unwrap_or
unfolding value_of refusal fault_number
returns-else-unwrap_or c =
    let here = decides-here (goal.at.returns-else-unwrap_or c).After-is_code_cube in
    mend_uncorrected (done-here (goal.at.returns-else-unwrap_or c).In_ok-check) _ (passes-here (goal.at.returns-else-unwrap_or c).After-pass-2)
    (decides-false here (sym c.unwrap_or.ensures ∙ c.if-unwrap_or.false))
    (c.fill.ensures.after (λ y e. e)
    ∙ ap (λ (n : ℕ). replicate n 0)
    (c.pass-2.auto.cube ∙ c.pass.auto.cube ∙ c.first_pass.auto.second))
