-- `place` starts with the sent cells missing, places the packets, and settles the marks where there are any.
use mathlib.Core.Path.{◌≡◌, sym, ◌∙◌}
use mathlib.Core.Bool.{false}
use Prim.Native.Nat.{ℕ, ◌<◌}
use native.Mathlib.Omega.{arith}
use Rattle.pack.specs.Packs.{unsent}
use Rattle.pack.specs.Packets.{source}
use Rattle.pack.proofs.Naming.{place-sent}
use Rattle.receiver.specs.Gathering.{counts_of}
use Rattle.receiver.proofs.Arrivals.{settled-placed, settled-conflicts, none-placed, none-conflicts}
use Rattle.receiver.proofs.placing.place.Goals as goal
use Rattle.receiver.proofs.placing.place.Goals.{After-place_packets-repeats, then-repeats-eq0, else-repeats-eq0}

sent : (p : After-place_packets-repeats) → (i : ℕ) → i < p.args.packets.now.section.count
    → unsent p.args.packets.now.header ((source p.args.packets.now.bytes.now p.args.packets.now.header p.args.packets.now.section).place i) ≡ false
sent p i l = place-sent _ _ _ _ (p.requires.0 i l).range

pub place_packets-repeats-requires : goal.place_packets-repeats-requires
place_packets-repeats-requires c =
    record { valid = c.requires.1.valid; named = c.requires.0; high = omega arith; marked = c.begin.ensures _ }

pub returns : goal.returns
unfolding counts_of source
returns c =
    let (marked, repeats) = c.place_packets-repeats.ensures in
    let all = sent (goal.at.returns c).After-place_packets-repeats in
    elim c.if-repeats-eq0.branch [
      | then-repeats-eq0 w ↦
          let none = sym repeats ∙ w.if-repeats-eq0.true in
          (rw w.flags-is (none-placed _ _ _ _ _ marked all none), rw (repeats, w.conflicts-is, none-conflicts _ _ _ _ _ marked all none))
      | else-repeats-eq0 w ↦
          let told = w.settle-conflicts.ensures in (
            rw w.flags-is (settled-placed _ _ _ _ _ marked all _ told.remarked),
            rw (repeats, w.conflicts-is, told.value, settled-conflicts _ _ _ _ _ marked all),
          )
    ]
