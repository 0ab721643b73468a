-- `text_writer::Air::text_length` meets its contract. Assumes nothing.
use mathlib.Core.Path.{◌≡◌}
use Prim.Native.Nat.{◌+◌, ◌*◌, ◌≤◌}
use lib.ListN.{length}
use Rattle.pack.specs.Packets.{packet_in}
use Rattle.text.specs.Form.{first_line}
use Rattle.text_writer.proofs.TextLines.{lines_to}
use Rattle.text_writer.proofs.Air.text_length.Given as goal

abbrev pub invariant-loop-i : goal.invariant-loop-i
invariant-loop-i l =
    (l.len ≡ length (first_line l.self.packets.header.shape) + length (lines_to (packet_in l.self.packets.bytes.now l.self.packets.header l.self.packets.section) l.i)) × (l.len ≤ 90 + 3142 * l.i)
