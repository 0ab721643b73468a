-- `text_writer::Air::append_lines` meets its contract. Assumes nothing.
use native.Mathlib.Omega.{arith}
use Rattle.text_writer.proofs.TextLines.{lines_none, lines-room, lines_more, lines-all}
use Rattle.text_writer.proofs.Air.append_lines.Goals as goal

pub loop-i-init : goal.loop-i-init
loop-i-init c = lines_none _ _ _ (omega arith)

pub append_packet-at-requires : goal.append_packet-at-requires
append_packet-at-requires c = (omega arith, lines-room _ _ _ _ _ _ _ _ c.loop-i.invariant c.requires (omega arith))

pub loop-i-preserved : goal.loop-i-preserved
loop-i-preserved c = lines_more _ _ _ _ _ _ _ _ c.loop-i.invariant _ _ c.append_packet-at.ensures

pub returns : goal.returns
returns c = let a = c.args.self.now.packets in lines-all a.bytes.now a.header a.section _ _ _ c.loop-i.i _ (omega arith) c.loop-i.invariant
