-- `Peeling::sweep` visits each group of an axis that is not quiet; the lines of a quiet one stop.
use mathlib.Core.Path.{◌∙◌}
use Prim.Native.Nat.{◌+◌, ◌*◌}
use native.Mathlib.Omega.{arith}
use Rattle.field.specs.Field.{reduction}
use Rattle.peel.specs.Inner.Sweep.{LinesStop, Filled}
use Rattle.peel.proofs.Visiting.{swept-quiet, swept-group, swept_all}
use Rattle.peel.proofs.Reaching.{filled-le}
use Rattle.peel.proofs.state.Peeling.sweep.Goals as goal
use Rattle.peel.proofs.state.Peeling.sweep.Goals.{After-group-filled}

-- up to the next group that is not quiet, and that one
swept :
    (c : After-group-filled) →
    let before = c.args.self.now in
    let after = c.group-filled.new.self in
    Filled reduction before.shape (LinesStop before.shape c.args.axis 0 ((c.in-Some.g + 1) * 8))
    before.cube.now before.flags.now after.cube.now after.flags.now (c.loop-g.filled + c.group-filled.result)
swept c =
    let so_far = c.loop-g.invariant in
    let pre = c.requires in
    swept-group _ (swept-quiet pre.le_axis.0 pre.le_axis.1 so_far.calm c.in-Some.ensures.2 so_far.filled)
    (rw so_far.lends.2 at c.group-filled.ensures.filled)

pub group-filled-requires-clause-calm : goal.group-filled-requires-clause-calm
group-filled-requires-clause-calm c = let so_far = c.loop-g.invariant in rw so_far.lends.2 so_far.calm

pub overflow_add-filled : goal.overflow_add-filled
overflow_add-filled c = omega (arith, filled-le (swept (goal.at.overflow_add-filled c).After-group-filled), c.args.self.now.sized.flags)

pub loop-g-preserved : goal.loop-g-preserved
loop-g-preserved c =
    let so_far = c.loop-g.invariant in
    let group = c.group-filled.ensures in
    record {
      from = omega (arith, c.in-Some.ensures);
      lends = (group.lends.0 ∙ so_far.lends.0, group.lends.1 ∙ so_far.lends.1, group.lends.2 ∙ so_far.lends.2);
      calm = rw so_far.lends.2 at group.calm_2;
      filled = swept (goal.at.loop-g-preserved c).After-group-filled;
    }

pub returns-clause-filled : goal.returns-clause-filled
returns-clause-filled c =
    let so_far = c.loop-g.invariant in
    let pre = c.requires in
    swept_all _ c.args.self.now.sized.valid c.groups-groups.ensures.0
    (swept-quiet pre.le_axis.0 pre.le_axis.1 so_far.calm c.in_default.ensures so_far.filled)
