-- `fill::fill` refuses what the checks refuse, checks a cube with no cell missing, and fills any other.
use Rattle.answer.proofs.Values.{value-passed}
use mathlib.Core.Path.{◌≡◌, sym, ◌∙◌}
use lib.ListN.{length}
use Rattle.answer.specs.Values.{passes}
use Rattle.fill.specs.Fill.{flags_checked}
use Rattle.fill.proofs.Checks.{done-sized}
use Rattle.fill.proofs.Outcome.{fill-unfit}
use Rattle.fill.proofs.Whole.{whole-outcome}
use Rattle.fill.proofs.fill.Goals as goal
use Rattle.fill.proofs.fill.Goals.{In_ok-check}

done : (c : In_ok-check) → flags_checked c.args.sh (length c.args.cube.now) c.args.flags.now ≡ passes tt
done c = value-passed _ _ _ c.check.ensures c.in_ok-check.was

pub returns-in_err-check : goal.returns-in_err-check
returns-in_err-check c = fill-unfit _ _ _ _ _ _ _ c.check.ensures c.in_err-check.was c.from_residual.ensures.1

pub whole-requires : goal.whole-requires
whole-requires c = let sized = done-sized _ _ _ (done (goal.at.whole-requires c).In_ok-check) in record { valid = sized.valid; size = sized.bytes }

pub returns-then-none_missing : goal.returns-then-none_missing
returns-then-none_missing c =
    whole-outcome _ _ _ _ (sym c.none_missing.ensures ∙ c.if-none_missing.true)
    (done (goal.at.returns-then-none_missing c).In_ok-check) _ c.whole.ensures

pub fill_missing-requires : goal.fill_missing-requires
fill_missing-requires c = done (goal.at.fill_missing-requires c).In_ok-check
