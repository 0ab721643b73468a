-- `pieces` copies piece after piece; the last one may reach back into bytes that are copied already.
use Prim.Native.Nat.{◌+◌, ◌<◌}
use Rattle.span.specs.Span.{Copied}
use Rattle.span.proofs.pieces.Given as goal

abbrev pub invariant-loop-i : goal.invariant-loop-i
invariant-loop-i l = (l.i < l.last + 16) × Copied l.src 0 l.initial.dst l.to l.i l.dst
