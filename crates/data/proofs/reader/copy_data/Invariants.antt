-- `data::reader::copy_data` goes piece by piece: the bytes before the next piece are copied.
use mathlib.Core.Path.{◌≡◌}
use Prim.Native.Nat.{◌+◌, ◌-◌, ◌≤◌}
use Rattle.span.specs.Span.{Copied}
use Rattle.data.specs.Data.{held_data}
use Rattle.data.proofs.reader.copy_data.Given as goal

abbrev pub invariant-loop-s : goal.invariant-loop-s
invariant-loop-s l =
    record {
      can : (goal.iterator-loop-s).can_next l.s-iterator;
      finite : (goal.iterator-loop-s).is_finite l.s-iterator;
      shape : l.s-iterator.sh ≡ l.fn.sh;
      low : l.from ≤ l.s-iterator.q;
      ends : l.s-iterator.end ≡ l.from + l.n;
      copied : Copied (held_data l.fn.sh l.cube) l.from l.initial.out l.to (l.s-iterator.q - l.from) l.out;
    }
