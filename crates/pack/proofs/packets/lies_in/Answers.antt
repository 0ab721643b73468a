-- `pack::packets::lies_in` compares by a quotient, so that no sum or product can wrap. Assumes nothing.
use Prim.Native.Nat.{◌+◌, ◌-◌, ◌*◌, ◌/◌}
use native.Mathlib.Decide.{dec_le}
use native.Mathlib.Nat.{le-div_iff_mul-le, add-mul, one-mul}
use native.Mathlib.Omega.{arith}
use borrow.Author.Tests.{ltb-true, ltb-false}
use Rattle.pack.proofs.packets.lies_in.Goals as goal

pub returns-then-at-len : goal.returns-then-at-len
returns-then-at-len c =
    let a = c.args in
    let room = a.len - a.at in
    let fits = le-div_iff_mul-le {k = a.size} {x = a.i + 1} {y = room} c.requires in
    let next = add-mul a.i 1 a.size in
    let one = one-mul a.size in (
      λ e. omega (arith, next, one, fits.0 (omega (arith, ltb-true a.i (room / a.size) e))),
      λ e. elim (dec_le ((a.i + 1) * a.size) room) [
        | yes h ↦ absurd (omega (arith, fits.1 h, ltb-false a.i (room / a.size) e))
        | no h ↦ omega (arith, next, one)
      ],
    )
