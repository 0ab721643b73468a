-- `Peeling::group` marks a group quiet and visits those of its lines that were awake.
use Rattle.peel.proofs.Visiting.{group-calm, group-filled}
use Rattle.peel.proofs.state.Peeling.group.Goals as goal

pub returns-clause-filled : goal.returns-clause-filled
returns-clause-filled c =
    let pre = c.requires in
    group-filled c.args.self.now.sized.valid pre.le_axis.0.0 pre.le_axis.0.1 pre.le_axis.1 pre.calm (rw (c.from-mark.ensures, c.mark_at-at.ensures) at c.visit_lines.ensures.visited)

pub returns-clause-calm_2 : goal.returns-clause-calm_2
returns-clause-calm_2 c =
    let pre = c.requires in
    group-calm c.args.self.now.sized.valid pre.le_axis.0.0 pre.le_axis.0.1 pre.le_axis.1 pre.calm (rw (c.from-mark.ensures, c.mark_at-at.ensures) at c.visit_lines.ensures.visited)
