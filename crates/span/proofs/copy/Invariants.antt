-- `copy` writes a few bytes one after the other: those below i are copied, all others kept.
use Rattle.span.specs.Span.{Copied}
use Rattle.span.proofs.copy.Given as goal

abbrev pub invariant-loop-i : goal.invariant-loop-i
invariant-loop-i l = Copied l.src 0 l.initial.dst l.to l.i l.dst
