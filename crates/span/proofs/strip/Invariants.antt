-- `strip` copies four pieces, to the slice and to the array that it answers.
use mathlib.Core.Path.{◌≡◌}
use Prim.Native.Nat.{◌%◌, ◌≤◌}
use Rattle.span.specs.Span.{Copied}
use Rattle.span.proofs.strip.Given as goal

abbrev pub invariant-loop-i : goal.invariant-loop-i
invariant-loop-i l =
    (l.i ≤ 64) × (l.i % 16 ≡ 0) × Copied l.src l.from l.initial.dst l.to l.i l.dst × Copied l.src l.from l.initial.c 0 l.i l.c
