-- A step of the walk along the data string: the next piece lies in the stretch where the walk is, and the next row begins where it ends.
use Prim.Native.Nat.{◌<◌}
use native.Mathlib.Omega.{arith}
use Rattle.shape.specs.Shapes.{capacity}
use Rattle.data.specs.Inner.Place.{Standing}
use Rattle.data.proofs.Placing.{standing-inside}
use Rattle.data.proofs.pieces.PiecesIterator.next.Goals as goal

pub next_row-self-requires : goal.next_row-self-requires
next_row-self-requires c =
    let s = c.args.self.now in
    let h : Standing s.sh s.q s.next = c.requires c.if-end-q.false in
    let less : s.q < capacity s.sh = omega (arith, s.inside) in
    (s.valid, omega (arith, standing-inside _ _ _ s.valid h less, s.valid.volume), h.second)
