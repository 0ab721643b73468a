-- `line::strips::store` writes byte after byte: those below t are copied, all others kept.
use Rattle.span.specs.Span.{Copied}
use Rattle.line.proofs.strips.store.Given as goal

abbrev pub invariant-loop-t : goal.invariant-loop-t
invariant-loop-t l = Copied l.c 0 l.initial.s l.at l.t l.s
