-- `receive::write_pieces` meets its contract: after k turns the first k pieces are written. Assumes nothing.
use Rattle.std.proofs.Common.{◌≡◌, length}
use Rattle.std.specs.Io.KnownBytes.{Appends}
use Rattle.receive.specs.Printed.{joined}
use Rattle.receive.specs.Pieces.{piece}
use Rattle.receive.proofs.write_pieces.Given as goal

abbrev pub invariant-loop-k : goal.invariant-loop-k
invariant-loop-k g l = (length l.out ≡ 65536)
    × Appends (g.W.Write.contents l.initial.to) (g.W.Write.contents l.to) (joined (piece l.fn.text.flags.now l.fn.text.file.now l.fn.text.outcome) 0 l.k)
