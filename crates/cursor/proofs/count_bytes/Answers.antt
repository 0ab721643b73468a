-- `cursor::count_bytes` meets its contract: the lowest four of std's bytes of the number.
use Rattle.cursor.specs.Steps.{word_bytes}
use Rattle.cursor.proofs.count_bytes.Goals as goal

pub returns : goal.returns
unfolding word_bytes
returns c = rw c.to_le_bytes.ensures
