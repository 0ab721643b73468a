-- `text_writer::Air::put` meets its contract. Assumes nothing.
use Rattle.text.specs.Form.{first_line}
use Rattle.text_writer.proofs.TextLines.{text-room, text-whole}
use Rattle.text_writer.proofs.Air.put.Goals as goal

pub append_lines-requires : goal.append_lines-requires
unfolding first_line
append_lines-requires c = text-room _ _ _ _ _ _ c.requires c.append_shape-behind.ensures

pub returns : goal.returns
unfolding first_line
returns c = text-whole _ _ _ _ _ _ c.requires c.append_shape-behind.ensures _ _ c.append_lines.ensures
