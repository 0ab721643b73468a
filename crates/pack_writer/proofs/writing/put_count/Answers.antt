-- `pack_writer::writing::put_count` meets its contract. Assumes nothing.
use Rattle.pack_writer.proofs.writing.put_count.Goals as goal

pub returns : goal.returns
returns c = rw c.count_bytes.ensures at c.put_bytes.ensures
