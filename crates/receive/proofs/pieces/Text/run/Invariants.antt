-- `receive::pieces::Text::run` meets its contract: after i turns i texts stand in the buffer. Assumes nothing.
use Rattle.printing.specs.Append.{Appended}
use Rattle.receive.specs.Printed.{joined, text_of}
use Rattle.receive.proofs.pieces.Text.run.Given as goal

abbrev pub invariant-loop-i : goal.invariant-loop-i
invariant-loop-i l = Appended l.initial.out 0 (joined (text_of l.self.flags.now l.self.file.now l.self.outcome) l.from l.i) l.out l.at
