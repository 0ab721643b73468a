-- `Peeling::sweep` visits each group of an axis that is not quiet; the lines of a quiet one stop.
use Prim.Native.Nat.{◌-◌, ◌*◌, ◌≤◌}
use Rattle.field.specs.Field.{reduction}
use Rattle.peel.specs.Inner.Sweep.{Lends, LinesStop, Filled, Calm}
use Rattle.peel.proofs.state.Peeling.sweep.Given as goal

abbrev pub invariant-loop-g : goal.invariant-loop-g
invariant-loop-g l =
    record {
      from : l.from ≤ l.groups;
      lends : Lends l.initial.self l.self;
      calm : Calm l.initial.self.shape l.self.flags.now l.self.marks;
      filled : Filled reduction l.initial.self.shape (LinesStop l.initial.self.shape l.axis 0 (l.from * 8)) l.initial.self.cube.now l.initial.self.flags.now l.self.cube.now l.self.flags.now l.filled;
    }

abbrev pub decreases-loop-g : goal.decreases-loop-g
decreases-loop-g l = l.groups - l.from
