-- Two erasures with the row of their inverted array.
use mathlib.Core.Path.{◌≡◌, ap}
use mathlib.Core.List.{List, [], ◌∷◌}
use Prim.Native.Nat.{ℕ}
use lib.ListN.{get_or}
use Rattle.solver.specs.Solver.{row0, row1}
use Rattle.line.specs.declared.Erasures.{Erasures}
use Rattle.line.specs.Run.{erasures_at}

-- two erasures with a row that is the array's
from_row : ℕ → ℕ → List ℕ → Erasures
from_row j k row = record { j = j; k = k; b = get_or row 0 0; d = get_or row 1 0 }

pub row-erasures :
    (r j k : ℕ) (row : List ℕ) → row ≡ row0 r j k ∷ row1 r j k ∷ [] →
    ◌≡◌ {A = Erasures} (record { j = j; k = k; b = get_or row 0 0; d = get_or row 1 0 }) (erasures_at r j k)
unfolding erasures_at from_row
row-erasures r j k row h = ap (from_row j k) h
