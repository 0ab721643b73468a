-- `zero_behind` asks cube's test, which answers for a cube of the right length.
use Rattle.receiver.proofs.HeldFile.{zero-told}
use Rattle.receiver.proofs.file.zero_behind.Goals as goal

pub returns : goal.returns
returns c =
    let fits = c.requires in
    zero-told _ _ _ fits.valid fits.size _ c.is_data_zero.ensures _ c.unwrap_or.ensures
