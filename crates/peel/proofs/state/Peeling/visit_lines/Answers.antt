-- `Peeling::visit_lines` visits lines of an axis, some of them side by side at once.
use mathlib.Core.Path.{◌∙◌}
use Prim.Native.Nat.{◌+◌}
use native.Mathlib.Omega.{arith}
use Rattle.field.specs.Field.{reduction}
use Rattle.peel.specs.Inner.Sweep.{Visited}
use Rattle.peel.proofs.Visiting.{visited-next, visited-fewer}
use Rattle.peel.proofs.Reaching.{filled-le}
use Rattle.peel.proofs.state.Peeling.visit_lines.Goals as goal
use Rattle.peel.proofs.state.Peeling.visit_lines.Goals.{After-visit-step}

-- some lines more
visited :
    (c : After-visit-step) →
    let before = c.args.self.now in
    let after = c.visit-step.new.self in
    Visited reduction before.shape c.args.axis c.args.from (c.loop-m.m + c.visit-step.result.lines) before.cube.now before.flags.now before.marks
    after.cube.now after.flags.now after.marks (c.loop-m.filled + c.visit-step.result.filled)
visited c =
    let so_far = c.loop-m.invariant in
    visited-next c.requires.0.0 c.requires.0.1 so_far.visited (rw so_far.lends.2 at c.visit-step.ensures.visited)

pub overflow_add-filled : goal.overflow_add-filled
overflow_add-filled c =
    omega (arith, filled-le (visited (goal.at.overflow_add-filled c).After-visit-step).filled, c.args.self.now.sized.flags)

pub loop-m-preserved : goal.loop-m-preserved
loop-m-preserved c =
    let so_far = c.loop-m.invariant in
    let step = c.visit-step.ensures in
    record {
      from = omega (arith, so_far.from);
      lends = (step.lends.0 ∙ so_far.lends.0, step.lends.1 ∙ so_far.lends.1, step.lends.2 ∙ so_far.lends.2);
      visited = visited (goal.at.loop-m-preserved c).After-visit-step;
    }

pub returns-clause-visited : goal.returns-clause-visited
returns-clause-visited c = visited-fewer (omega arith) c.loop-m.invariant.visited
