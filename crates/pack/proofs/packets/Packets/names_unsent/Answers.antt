-- `pack::packets::Packets::names_unsent` meets its contract. Assumes nothing.
use Rattle.pack.proofs.Naming.{parts-range, parts-unsent}
use Rattle.pack.proofs.packets.Packets.names_unsent.Goals as goal

pub is_unsent-requires : goal.is_unsent-requires
is_unsent-requires c =
    let m = c.requires in
    let (a, b, d) = parts-range _ _ _ _ _ _ _ _ _ c.parts.ensures c.in-Some.is m in
    (m.stands.l1_high, m.stands.l2_high, a, b, d)

pub returns : goal.returns
returns c = parts-unsent _ _ _ _ _ _ _ _ _ _ c.parts.ensures c.in-Some.is c.is_unsent.ensures
