-- `data::writer::set_from` goes piece by piece: the bytes before the next piece are set.
use mathlib.Core.Path.{◌≡◌}
use Prim.Native.Nat.{◌-◌, ◌≤◌, ◌<◌}
use Rattle.span.specs.Span.{SetTo}
use Rattle.data.specs.Data.{held_data, ParityKept}
use Rattle.data.proofs.writer.set_from.Given as goal

abbrev pub invariant-loop-s : goal.invariant-loop-s
invariant-loop-s l =
    record {
      can : (goal.iterator-loop-s).can_next l.s-iterator;
      finite : (goal.iterator-loop-s).is_finite l.s-iterator;
      shape : l.s-iterator.sh ≡ l.fn.sh;
      low : l.s-iterator.q < l.fn.end → l.from ≤ l.s-iterator.q;
      ends : l.s-iterator.end ≡ l.fn.end;
      set : SetTo (held_data l.fn.sh l.initial.cube) l.from (l.s-iterator.q - l.from) l.value (held_data l.fn.sh l.cube);
      kept : ParityKept l.fn.sh l.initial.cube l.cube;
    }
