-- `text::reader::decode` meets its contract. The invariant: the bytes before i are decoded. Assumes nothing.
use Rattle.span.specs.Span.{Copied}
use Rattle.text.specs.Inner.Lines.{pair_bytes}
use Rattle.text.proofs.reader.decode.Given as goal

abbrev pub invariant-loop-i : goal.invariant-loop-i
invariant-loop-i l = Copied (pair_bytes l.text l.from l.n) 0 l.initial.out l.to l.i l.out
