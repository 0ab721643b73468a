-- `zeros` joins the bytes in one, which is 00h exactly when all are.
use mathlib.Core.Path.{◌≡◌}
use mathlib.Core.List.{List}
use Prim.Native.Nat.{ℕ}
use lib.ListN.{get_or}
use Rattle.span.proofs.Joining.{Joined}
use Rattle.span.proofs.zeros.Given as goal

-- byte i of the list is 00h
abbrev pub Zero : List ℕ → ℕ → Type 0
Zero xs i = get_or xs i 0 ≡ 0

abbrev pub invariant-loop-x : goal.invariant-loop-x
invariant-loop-x l = Joined (Zero l.s) l.x-index l.any
