-- `same` joins the differences in one byte, which is 00h exactly when all are.
use mathlib.Core.Path.{◌≡◌}
use mathlib.Core.List.{List}
use Prim.Native.Nat.{ℕ}
use lib.ListN.{get_or}
use Rattle.span.proofs.Joining.{Joined}
use Rattle.span.proofs.same.Given as goal

-- the bytes i of both lists agree
abbrev pub Agree : List ℕ → List ℕ → ℕ → Type 0
Agree xs ys i = get_or xs i 0 ≡ get_or ys i 0

abbrev pub invariant-loop-i : goal.invariant-loop-i
invariant-loop-i l = Joined (Agree l.a l.b) l.i l.any
