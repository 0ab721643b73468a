-- `fill::fill_missing` leaves the filling where one exists, and else says 13 and leaves the missing cells 00h.
use borrow.Author.Rules.{rules}
use Rattle.field.specs.Field.{reduction}
use Rattle.peel.specs.Peel.{Sized, Peeled}
use Rattle.fill.proofs.Checks.{done-sized}
use Rattle.fill.proofs.Clearing.{cleared-sized}
use Rattle.span.proofs.Decision.{decides-false}
use Rattle.peel.proofs.Reaching.{reaches-sized}
use Rattle.fill.proofs.Outcome.{filled-outcome, contradiction-outcome}
use Rattle.fill.proofs.fill_missing.Goals as goal
use Rattle.fill.proofs.fill_missing.Goals.{After-peel}

cleared : (c : After-peel) → Sized c.args.sh c.clear_missing.new.cube c.args.flags.now
cleared c = cleared-sized _ _ _ _ _ (done-sized _ _ _ c.requires) c.clear_missing.ensures

peeled : (c : After-peel) → Peeled reduction c.args.sh c.clear_missing.new.cube c.args.flags.now c.peel.new.cube c.peel.new.flags
peeled c = (c.peel.ensures.done (cleared c)).1

verified : (c : After-peel) → Sized c.args.sh c.peel.new.cube c.peel.new.flags
verified c = reaches-sized (cleared c) (peeled c).reaches

pub clear_missing-requires : goal.clear_missing-requires
clear_missing-requires c = done-sized _ _ _ c.requires

pub verify-requires : goal.verify-requires
verify-requires c = verified (goal.at.verify-requires c).After-peel

pub restore-requires : goal.restore-requires
restore-requires c = verified (goal.at.restore-requires c).After-peel

pub returns-then-verify : goal.returns-then-verify
returns-then-verify c =
    filled-outcome _ _ _ _ _ _ _ c.requires c.clear_missing.ensures (peeled (goal.at.returns-then-verify c).After-peel) _ c.settle.ensures.remarked
    (λ q. search rules) (c.verify.ensures.yes_then c.if-verify.true) _ c.settle.ensures.value

pub returns-else-verify : goal.returns-else-verify
returns-else-verify c =
    contradiction-outcome _ _ _ _ _ _ _ c.requires c.clear_missing.ensures (peeled (goal.at.returns-else-verify c).After-peel)
    _ c.restore.ensures.cleared (decides-false c.verify.ensures c.if-verify.false) _ c.restore.ensures.remarked
