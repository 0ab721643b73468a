-- `text_writer::Air::append_lines` meets its contract. Assumes nothing.
use Rattle.pack.specs.Packets.{packet_in}
use Rattle.printing.specs.Append.{Appended}
use Rattle.text_writer.proofs.TextLines.{lines_to}
use Rattle.text_writer.proofs.Air.append_lines.Given as goal

abbrev pub invariant-loop-i : goal.invariant-loop-i
invariant-loop-i l = Appended l.initial.text l.from (lines_to (packet_in l.self.packets.bytes.now l.self.packets.header l.self.packets.section) l.i) l.text l.at
