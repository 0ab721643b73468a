-- `place_repeat` compares a repeat with what stands in its cell, and marks the cell where they differ.
use mathlib.Core.Path.{◌≡◌}
use mathlib.Core.Bool.{false}
use native.Mathlib.Omega.{arith}
use Prim.Native.Nat.{◌*◌, ◌<◌}
use lib.ListN.{length}
use Rattle.span.specs.Span.{BothInside}
use Rattle.shape.specs.Shapes.{cells}
use Rattle.pack.specs.Packs.{unsent}
use Rattle.pack.specs.Packets.{source}
use Rattle.pack.proofs.Naming.{Told, packet-told, place_lt, place-sent}
use Rattle.receiver.proofs.Arrivals.{cell-inside, is-first, arrived-same, arrived-other, tried-placed, tried_other}
use Rattle.receiver.proofs.placing.place_repeat.Goals as goal
use Rattle.receiver.proofs.placing.place_repeat.Goals.{In-Some}

told : (c : In-Some) → Told c.args.packets.now.bytes.now c.args.packets.now.header c.args.packets.now.section c.args.i c.in-Some.m c.in-Some.from
told c = packet-told _ _ _ _ _ _ _ c.packet.ensures c.in-Some.is

below : (c : In-Some) → c.in-Some.m < cells c.args.packets.now.header.shape
below c = let cell = place_lt _ _ _ _ c.requires.1.range in omega (arith, (told c).cell)

-- it is sent
sent : (c : In-Some)
    → unsent c.args.packets.now.header ((source c.args.packets.now.bytes.now c.args.packets.now.header c.args.packets.now.section).place c.args.i) ≡ false
sent c = place-sent _ _ _ _ c.requires.1.range

-- the flag and the bytes of the cell lie inside
flag-inside : (c : In-Some) → c.in-Some.m < length c.args.flags.now
flag-inside c = omega (arith, below c, c.requires.2.flags_size)

inside : (c : In-Some)
    → BothInside c.args.packets.now.bytes.now c.in-Some.from c.args.cube.now (c.in-Some.m * c.args.packets.now.header.shape.w) c.args.packets.now.header.shape.w
inside c = ((told c).inside, cell-inside _ _ _ (below c) c.requires.2.cube_size)

pub bounds-flags-m : goal.bounds-flags-m
bounds-flags-m c = flag-inside (goal.at.bounds-flags-m c).In-Some

pub returns-then-flags-m-eq-MISSING : goal.returns-then-flags-m-eq-MISSING
returns-then-flags-m-eq-MISSING c =
    tried_other _ _ _ _ _ _ _ (is-first _ _ _ _ _ c.requires.2 _ (told (goal.at.returns-then-flags-m-eq-MISSING c).In-Some).cell (below (goal.at.returns-then-flags-m-eq-MISSING c).In-Some) (sent (goal.at.returns-then-flags-m-eq-MISSING c).In-Some) c.if-flags-m-eq-MISSING.true)

pub overflow_mul-m : goal.overflow_mul-m
overflow_mul-m c = omega (arith, (inside (goal.at.overflow_mul-m c).In-Some).1)

pub returns-then-same : goal.returns-then-same
returns-then-same c =
    tried-placed _ _ _ _ _ _ _ _ _
    (arrived-same _ _ _ _ _ c.requires.2 _ (told (goal.at.returns-then-same c).In-Some).cell (below (goal.at.returns-then-same c).In-Some) (sent (goal.at.returns-then-same c).In-Some) _ _ (λ w l. (told (goal.at.returns-then-same c).In-Some).byte w) c.if-flags-m-eq-MISSING.false _ c.same.ensures (inside (goal.at.returns-then-same c).In-Some) c.if-same.true)

pub bounds-flags-m-2 : goal.bounds-flags-m-2
bounds-flags-m-2 c = flag-inside (goal.at.bounds-flags-m-2 c).In-Some

pub returns : goal.returns
returns c =
    tried-placed _ _ _ _ _ _ _ _ _
    (arrived-other _ _ _ _ _ c.requires.2 _ (told (goal.at.returns c).In-Some).cell (below (goal.at.returns c).In-Some) (sent (goal.at.returns c).In-Some) _ _ (λ w l. (told (goal.at.returns c).In-Some).byte w) c.if-flags-m-eq-MISSING.false _ c.same.ensures (inside (goal.at.returns c).In-Some) c.if-same.false)
