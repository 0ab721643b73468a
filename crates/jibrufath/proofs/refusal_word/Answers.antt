-- `jibrufath::refusal_word` meets its contract.
use Prim.Native.Nat.{◌≤◌}
use native.Mathlib.Omega.{arith}
use Rattle.jibrufath.proofs.Told.{tabled-number, refusal-tabled}
use Rattle.jibrufath.proofs.refusal_word.Goals as goal

pub overflow_add-result : goal.overflow_add-result
overflow_add-result c =
    let number : c.number.result ≤ 19 = rw c.number.ensures (tabled-number (refusal-tabled c.args.f)) in
    omega (arith, number, c.place.ensures)
