-- `writer::lay_file` meets its contract: the data string stands in the cube's data cells. Assumes nothing.
use Rattle.writer.proofs.Outcomes.{file-laid}
use Rattle.writer.proofs.lay_file.Goals as goal

pub returns : goal.returns
returns c =
    file-laid _ _ _ c.requires.0 _ _ _ _ c.requires.1.size (rw c.count_bytes-bytes.ensures at c.write_data.ensures) c.write_data-2.ensures c.set_data.ensures
