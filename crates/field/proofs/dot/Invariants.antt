-- `dot` takes both products by one run of Horner's rule: what is left of b and d above bit i is multiplied.
use mathlib.Core.Path.{◌≡◌}
use Prim.Native.Nat.{◌-◌, ◌/◌, ◌^◌}
use Rattle.field.specs.Field.{add, mul_bits}
use Rattle.field.proofs.dot.Given as goal

abbrev pub invariant-loop-i : goal.invariant-loop-i
invariant-loop-i l = l.p ≡ add (mul_bits l.reduction l.a (8 - l.i) (l.b / 2 ^ l.i)) (mul_bits l.reduction l.c (8 - l.i) (l.d / 2 ^ l.i))
