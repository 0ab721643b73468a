-- `text::reader::put_packets` meets its contract. The invariant: the packets of the lines before i are laid. Assumes nothing.
use Prim.Native.Nat.{◌+◌, ◌*◌, ◌≤◌, ◌<◌}
use native.Mathlib.Omega.{arith}
use lib.ListN.{length}
use Rattle.text.proofs.Decoding.{turned_none, turned-line, turned-room, turned_more, turned-all, read-lines}
use Rattle.text.proofs.reader.put_packets.Goals as goal

pub loop-i-init : goal.loop-i-init
loop-i-init c = turned_none _ _ _ _

pub put_packet-turn-requires : goal.put_packet-turn-requires
put_packet-turn-requires c =
    let r = c.requires.0 in
    let h = read-lines r.list r.scanning c.requires.1 c.requires.2 c.requires.3 c.requires.4 in
    let n : c.loop-i._i < length r.list = omega (arith, r.scanning.packets) in
    let room : c.args.first.at + length r.list * (3 + c.args.s.shape.w) ≤ length c.args.air.now = rw r.scanning.packets at c.requires.5 in (
      record { packet = _; rest = _; line = turned-line _ _ _ _ _ _ _ c.loop-i.invariant _ _ h n },
      turned-room _ _ _ _ _ _ _ c.loop-i.invariant _ _ h n room,
    )

pub loop-i-preserved : goal.loop-i-preserved
loop-i-preserved c = turned_more _ _ _ _ _ _ _ c.loop-i.invariant _ _ c.put_packet-turn.ensures

pub returns : goal.returns
returns c =
    λ ks h.
    turned-all _ _ _ _ _ _ _ c.loop-i.invariant _ ks (read-lines ks h c.requires.1 c.requires.2 c.requires.3 c.requires.4) (omega (arith, h.packets))
