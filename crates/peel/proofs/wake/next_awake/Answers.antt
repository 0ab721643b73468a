-- `peel::wake::next_awake` passes over groups that are quiet, many at a time and then one by one.
use mathlib.Core.Path.{◌≡◌}
use mathlib.Core.Logic.{◌≢◌}
use borrow.Author.Tests.{tests}
use lib.ListN.{get_or}
use Rattle.std.proofs.Common.{rules}
use Rattle.std.proofs.lemmas.Iterator.{first_from_Range}
use Rattle.peel.specs.Inner.Wake.{mark_at}
use Rattle.peel.proofs.Awake.{awake-found}
use Rattle.peel.proofs.wake.next_awake.Goals as goal

pub returns : goal.returns
returns c =
    awake-found _ c.past_quiet.ensures.0 c.past_quiet.ensures.1 c.past_quiet.ensures.2
    (first_from_Range _ _ _ _ (λ g. get_or c.args.marks.now (mark_at c.args.axis g) 0 ≢ 71) (λ g. get_or c.args.marks.now (mark_at c.args.axis g) 0 ≡ 71)
    c.find.ensures.ran (λ g q k. search (rules, tests)) (λ g q k. search (rules, tests)))
