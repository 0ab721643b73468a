-- `text::numbers::number` meets its contract: the digits up to `end` are those of v.
use Prim.Native.Nat.{◌-◌}
use Rattle.text.proofs.Reading.{Reading}
use Rattle.text.proofs.numbers.number.Given as goal

abbrev pub invariant-loop-v : goal.invariant-loop-v
invariant-loop-v l = Reading l.text l.at l.end l.v

abbrev pub decreases-loop-v : goal.decreases-loop-v
decreases-loop-v l = 100000 - l.v
