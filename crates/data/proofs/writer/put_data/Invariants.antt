-- `data::writer::put_data` goes piece by piece: the bytes before the next piece are copied.
use mathlib.Core.Path.{◌≡◌}
use Prim.Native.Nat.{◌+◌, ◌-◌, ◌≤◌}
use Rattle.span.specs.Span.{Copied}
use Rattle.data.specs.Data.{held_data, ParityKept}
use Rattle.data.proofs.writer.put_data.Given as goal

abbrev pub invariant-loop-s : goal.invariant-loop-s
invariant-loop-s l =
    record {
      can : (goal.iterator-loop-s).can_next l.s-iterator;
      finite : (goal.iterator-loop-s).is_finite l.s-iterator;
      shape : l.s-iterator.sh ≡ l.fn.sh;
      low : l.to ≤ l.s-iterator.q;
      ends : l.s-iterator.end ≡ l.to + l.n;
      copied : Copied l.src l.from (held_data l.fn.sh l.initial.cube) l.to (l.s-iterator.q - l.to) (held_data l.fn.sh l.cube);
      kept : ParityKept l.fn.sh l.initial.cube l.cube;
    }
