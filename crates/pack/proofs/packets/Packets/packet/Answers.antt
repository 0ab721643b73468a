-- `pack::packets::Packets::packet` meets its contract. Assumes nothing.
use Rattle.pack.proofs.Naming.{parts-absent, parts-named}
use Rattle.pack.proofs.packets.Packets.packet.Goals as goal

pub returns-in_err-a : goal.returns-in_err-a
returns-in_err-a c = rw c.from_residual.ensures (parts-absent _ _ _ _ _ c.parts.ensures c.in_err-a.was)

pub returns : goal.returns
returns c =
    parts-named _ _ _ _ _ _ _ _ _ _ c.parts.ensures c.in_ok-a.was c.named.ensures
