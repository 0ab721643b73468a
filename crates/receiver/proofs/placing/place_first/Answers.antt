-- `place_first` places the first packet of a cell.
use mathlib.Core.Path.{◌≡◌}
use mathlib.Core.Bool.{false}
use native.Mathlib.Omega.{arith}
use Prim.Native.Nat.{◌*◌, ◌<◌}
use lib.ListN.{length}
use Rattle.span.specs.Span.{BothInside}
use Rattle.shape.specs.Shapes.{cells}
use Rattle.pack.specs.Packs.{unsent}
use Rattle.pack.specs.Packets.{source}
use Rattle.pack.proofs.Naming.{Told, packet-told, place_lt, place-sent}
use Rattle.receiver.proofs.Arrivals.{cell-inside, is-repeat, arrived-first, tried-placed, tried_other}
use Rattle.receiver.proofs.placing.place_first.Given.{Over}
use Rattle.receiver.proofs.placing.place_first.Goals as goal
use Rattle.receiver.proofs.placing.place_first.Goals.{In-Some}

told : (g : Over) (c : In-Some g) → Told c.args.packets.now.bytes.now c.args.packets.now.header c.args.packets.now.section c.args.i c.in-Some.m c.in-Some.from
told g c = packet-told _ _ _ _ _ _ _ c.packet.ensures c.in-Some.is

below : (g : Over) (c : In-Some g) → c.in-Some.m < cells c.args.packets.now.header.shape
below g c = let cell = place_lt _ _ _ _ c.requires.valid.1.range in omega (arith, (told g c).cell)

-- it is sent
sent : (g : Over) (c : In-Some g)
    → unsent c.args.packets.now.header ((source c.args.packets.now.bytes.now c.args.packets.now.header c.args.packets.now.section).place c.args.i) ≡ false
sent g c = place-sent _ _ _ _ c.requires.valid.1.range

-- the flag and the bytes of the cell lie inside
flag-inside : (g : Over) (c : In-Some g) → c.in-Some.m < length c.args.flags.now
flag-inside g c = omega (arith, below g c, c.requires.valid.2.flags_size)

inside : (g : Over) (c : In-Some g)
    → BothInside c.args.packets.now.bytes.now c.in-Some.from c.args.cube.now (c.in-Some.m * c.args.packets.now.header.shape.w) c.args.packets.now.header.shape.w
inside g c = ((told g c).inside, cell-inside _ _ _ (below g c) c.requires.valid.2.cube_size)

pub bounds-flags-m : goal.bounds-flags-m
bounds-flags-m g c = flag-inside g (goal.at.bounds-flags-m g c).In-Some

pub returns-then-flags-m-ne-MISSING : goal.returns-then-flags-m-ne-MISSING
returns-then-flags-m-ne-MISSING g c =
    tried_other _ _ _ _ _ _ _ (is-repeat _ _ _ _ _ c.requires.valid.2 _ (told g (goal.at.returns-then-flags-m-ne-MISSING g c).In-Some).cell (below g (goal.at.returns-then-flags-m-ne-MISSING g c).In-Some) (sent g (goal.at.returns-then-flags-m-ne-MISSING g c).In-Some) c.if-flags-m-ne-MISSING.true)

pub put-requires : goal.put-requires
put-requires g c = (inside g (goal.at.put-requires g c).In-Some, c.requires.w_value)

pub returns : goal.returns
returns g c =
    tried-placed _ _ _ _ _ _ _ _ _
    (arrived-first _ _ _ _ _ c.requires.valid.2 _ (told g (goal.at.returns g c).In-Some).cell (below g (goal.at.returns g c).In-Some) (sent g (goal.at.returns g c).In-Some) _ _ (λ w l. (told g (goal.at.returns g c).In-Some).byte w) _ c.if-flags-m-ne-MISSING.false c.put.ensures)
