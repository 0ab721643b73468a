-- `pack::packets::Packets::first_outside` meets its contract. Assumes nothing.
use Rattle.pack.proofs.Naming.{outside-sent, off-before, outside-unsent}
use Rattle.pack.proofs.packets.Packets.first_outside.Goals as goal

pub returns-then-all_sent : goal.returns-then-all_sent
returns-then-all_sent c = outside-sent _ _ _ _ c.first_off-off.ensures (c.all_sent.ensures c.if-all_sent.true)

pub first_unsent-requires : goal.first_unsent-requires
first_unsent-requires c = rw c.unwrap_or.ensures (off-before _ _ _ _ c.first_off-off.ensures)

pub returns : goal.returns
returns c =
    rw c.or.ensures (outside-unsent _ _ _ _ _ c.first_off-off.ensures (rw (c.unwrap_or.ensures) at c.first_unsent.ensures))
