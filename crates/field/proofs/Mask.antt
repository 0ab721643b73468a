-- A bit times 255 as a mask: what it takes of a byte is the bit times the byte.
use mathlib.Core.Path.{◌≡◌, ap, ◌∙◌}
use Prim.Native.Nat.{ℕ, ◌*◌, ◌/◌, ◌%◌, ◌<◌}
use native.Mathlib.Nat.{mod-eq_of_lt, zero-mul, one-mul, mul_comm}
use native.Mathlib.Omega.{arith}
use lib.Bits.{bit_and, and_comm, and_mask, and_zero_r}
use Rattle.field.specs.Field.{add, xtime}
use Rattle.field.proofs.Addition.{bit-ind, add_comm}

pub and-bit : (a n : ℕ) → a < 256 → bit_and a ((n % 2) * 255) ≡ (n % 2) * a
and-bit a n h =
    bit-ind (λ (x : ℕ). bit_and a (x * 255) ≡ x * a) (rw (zero-mul a) (and_zero_r a)) (rw (one-mul a) (and_mask a 8 ∙ mod-eq_of_lt h)) n

pub xtime-mask : (r a : ℕ) → r < 256 → a < 256 → add (a * 2 % 256) (bit_and (a / 128 * 255) r) ≡ xtime r a
unfolding xtime
xtime-mask r a fits h =
    let top : a / 128 ≡ a / 128 % 2 = omega arith in
    let masked : bit_and (a / 128 * 255) r ≡ r * (a / 128 % 2) =
    ap (λ (x : ℕ). bit_and (x * 255) r) top ∙ and_comm (a / 128 % 2 * 255) r ∙ and-bit r (a / 128) fits ∙ mul_comm (a / 128 % 2) r
    in
    rw masked (add_comm _ _)
