-- `inverse` squares once a turn: after n turns the square is the power 2^n and the product the power 2^(n + 1) - 2, so that
-- seven turns end at the power 254.
use mathlib.Core.Path.{◌≡◌, refl, sym, ap, ap₂, ◌∙◌}
use Prim.Native.Nat.{ℕ, ◌+◌, ◌*◌, ◌-◌, ◌^◌, ◌<◌}
use native.Mathlib.Nat.{pow-suc}
use native.Mathlib.Numerals.{add-one}
use native.Mathlib.Omega.{arith}
use lib.Pow.{pow_pos}
use Rattle.field.specs.Field.{mul, expt, inverse}
use Rattle.field.proofs.Power.{expt-one, expt-add}
use Rattle.field.proofs.inverse.Invariants.{Squares}
use Rattle.field.proofs.inverse.Goals as goal

squares-zero : (r a : ℕ) → a < 256 → Squares r a 0 a 1
unfolding expt
squares-zero r a h = record { square = sym (expt-one r a h); product = refl }

squares-suc : (r a n s p s' p' : ℕ) → r < 256 → Squares r a n s p → s' ≡ mul r s s → p' ≡ mul r p s' → Squares r a (n + 1) s' p'
squares-suc r a n s p s' p' fits q es ep =
    let double : 2 ^ (n + 1) ≡ 2 ^ n * 2 = ap (λ (m : ℕ). 2 ^ m) (add-one n) ∙ pow-suc 2 n in
    let sum : 2 ^ n + 2 ^ n ≡ 2 ^ (n + 1) = omega arith in
    let total : 2 ^ n * 2 - 2 + 2 ^ (n + 1) ≡ 2 ^ (n + 1) * 2 - 2 = omega (arith, pow_pos n) in
    let square : s' ≡ expt r a (2 ^ (n + 1)) =
    es ∙ ap₂ (mul r) q.square q.square ∙ sym (expt-add r a (2 ^ n) (2 ^ n) fits) ∙ ap (expt r a) sum
    in
    record {
      square = square;
      product = ep ∙ ap₂ (mul r) q.product square ∙ sym (expt-add r a (2 ^ n * 2 - 2) (2 ^ (n + 1)) fits) ∙ ap (expt r a) total;
    }

squares-inverse : (r a n s p : ℕ) → n ≡ 7 → Squares r a n s p → p ≡ inverse r a
unfolding inverse
squares-inverse r a n s p e q = q.product ∙ ap (λ (m : ℕ). expt r a (2 ^ m * 2 - 2)) e

pub loop-init : goal.loop-init
loop-init c = squares-zero _ _ (omega arith)

pub loop-preserved : goal.loop-preserved
loop-preserved c = squares-suc _ _ _ _ _ _ _ (omega arith) c.loop.invariant c.mul-square.ensures c.mul-product.ensures

pub returns : goal.returns
returns c = squares-inverse _ _ _ _ _ (omega arith) c.loop.invariant
