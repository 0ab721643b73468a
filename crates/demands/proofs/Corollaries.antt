-- What follows from demand 3 by itself: 26 or fewer lost cells always come back.
use mathlib.Core.Path.{◌≡◌}
use mathlib.Core.Bool.{Bool}
use mathlib.Core.List.{List, ◌++◌}
use Prim.Native.Nat.{ℕ, ◌≤◌}
use native.Mathlib.Decide.{ℕ_discrete}
use native.Mathlib.Omega.{arith}
use lib.ListN.{length, drop}
use Rattle.answer.specs.Values.{Value, gives}
use Rattle.shape.specs.Shapes.{cells}
use Rattle.stopping.specs.Stopping.{number}
use Rattle.stopping.proofs.Stopping.{stopping-size}
use Rattle.pack.specs.declared.Header.{Header}
use Rattle.pack.specs.Packs.{Packet}
use Rattle.receiver.specs.declared.Counts.{Counts}
use Rattle.receiver.specs.Gathering.{Reception, file}
use Rattle.receiver.specs.Receive.{Memory}
use Rattle.demands.specs.Demand3.{left_in, Exact}

pub few-lost : {h : Header} {contents x : List ℕ} {ps : List Packet} {L : ℕ → Bool} {m m' : Memory} {value : Value Reception} {counts : Counts}
    → Exact h contents x ps L m m' value counts → number L (cells h.shape) ≤ 26
    → (value ≡ gives (file (length contents))) × (m'.buffer ≡ contents ++ drop (length contents) m.buffer)
few-lost {value} e few =
    e.file_back
    (elim (ℕ_discrete (left_in value) 0) [
      | yes z ↦ z
      | no some ↦ absurd (omega (arith, (e.otherwise some).0, e.size, stopping-size e.largest.stopping))
    ])
