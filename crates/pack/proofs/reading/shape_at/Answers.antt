-- `pack::reading::shape_at` meets its contract. Assumes nothing.
use Rattle.pack.specs.Reading.{shape_at}
use Rattle.pack.proofs.reading.shape_at.Goals as goal

pub returns : goal.returns
unfolding shape_at
returns c = rw (c.from.ensures, c.from-2.ensures, c.from-3.ensures, c.from-4.ensures, c.from-5.ensures)
