-- `Peeling::visit_lines` visits lines of an axis, some of them side by side at once.
use Prim.Native.Nat.{◌-◌, ◌≤◌}
use Rattle.field.specs.Field.{reduction}
use Rattle.peel.specs.Inner.Sweep.{Lends, Visited}
use Rattle.peel.proofs.state.Peeling.visit_lines.Given as goal

abbrev pub invariant-loop-m : goal.invariant-loop-m
invariant-loop-m l =
    record {
      from : l.from ≤ l.m;
      lends : Lends l.initial.self l.self;
      visited : Visited reduction l.initial.self.shape l.axis l.from l.m l.initial.self.cube.now l.initial.self.flags.now l.initial.self.marks l.self.cube.now l.self.flags.now l.self.marks l.filled;
    }

abbrev pub decreases-loop-m : goal.decreases-loop-m
decreases-loop-m l = l.end - l.m
