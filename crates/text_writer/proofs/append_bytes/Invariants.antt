-- `text_writer::append_bytes` meets its contract. Assumes nothing.
use Prim.Native.Nat.{◌+◌, ◌*◌}
use lib.ListN.{take}
use Rattle.printing.specs.Append.{Appended}
use Rattle.text.specs.Form.{hex_bytes}
use Rattle.text_writer.proofs.append_bytes.Given as goal

abbrev pub invariant-loop-i : goal.invariant-loop-i
invariant-loop-i l = Appended l.initial.text l.at (hex_bytes (take l.i l.bytes)) l.text (l.at + 3 * l.i)
