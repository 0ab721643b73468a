-- `pack::packets::Packets::first_off` meets its contract: the packets before i name cells of the cube. Assumes nothing.
use Prim.Native.Nat.{ℕ, ◌<◌}
use Rattle.pack.specs.Packets.{OnCube}
use Rattle.pack.proofs.packets.Packets.first_off.Given as goal

abbrev pub invariant-loop-i : goal.invariant-loop-i
invariant-loop-i l = (j : ℕ) → j < l.i → OnCube l.self.bytes.now l.self.header l.self.section j
