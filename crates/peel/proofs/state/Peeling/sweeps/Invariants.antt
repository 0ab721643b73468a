-- `Peeling::sweeps` sweeps the axes 1, 2, 3 over and over until three of them in succession fill nothing: then no line is left to peel. Each
-- sweep fills a cell or is idle, so that the measure falls.
use Prim.Native.Nat.{◌+◌, ◌-◌, ◌*◌, ◌≤◌}
use Rattle.shape.specs.Shapes.{cells}
use Rattle.stopping.specs.Stopping.{number}
use Rattle.shape.specs.Flags.{missing}
use Rattle.field.specs.Field.{reduction}
use Rattle.peel.specs.Peel.{Reaches}
use Rattle.peel.specs.Inner.Sweep.{Lends, Calm}
use Rattle.peel.proofs.Reaching.{Idle}
use Rattle.peel.proofs.state.Peeling.sweeps.Given as goal

abbrev pub invariant-loop-idle : goal.invariant-loop-idle
invariant-loop-idle l =
    record {
      low : 1 ≤ l.axis;
      high : l.axis ≤ 3;
      few : l.idle ≤ 3;
      lends : Lends l.initial.self l.self;
      reaches : Reaches reduction l.initial.self.shape l.initial.self.cube.now l.initial.self.flags.now l.self.cube.now l.self.flags.now;
      idle : Idle l.initial.self.shape l.self.flags.now l.axis l.idle;
      calm : Calm l.initial.self.shape l.self.flags.now l.self.marks;
    }

abbrev pub decreases-loop-idle : goal.decreases-loop-idle
decreases-loop-idle l = number (missing l.self.flags.now) (cells l.initial.self.shape) * 4 + (3 - l.idle)
