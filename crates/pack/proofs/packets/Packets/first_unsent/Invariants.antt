-- `pack::packets::Packets::first_unsent` meets its contract: the cells of the packets before j are sent. Assumes nothing.
use mathlib.Core.Path.{◌≡◌}
use mathlib.Core.Bool.{false}
use Prim.Native.Nat.{ℕ, ◌<◌}
use Rattle.pack.specs.Packs.{unsent}
use Rattle.pack.specs.Packets.{source}
use Rattle.pack.proofs.packets.Packets.first_unsent.Given as goal

abbrev pub invariant-loop-j : goal.invariant-loop-j
invariant-loop-j l = (i : ℕ) → i < l.j → unsent l.self.header ((source l.self.bytes.now l.self.header l.self.section).place i) ≡ false
