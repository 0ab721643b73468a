-- `dot` takes both products by one run of Horner's rule: the product by x is additive.
use mathlib.Core.Path.{◌≡◌, sym, ap, ap₂, ◌∙◌}
use Prim.Native.Nat.{ℕ, suc, ◌*◌, ◌-◌, ◌/◌, ◌%◌, ◌^◌, ◌<◌, ◌≤◌}
use native.Mathlib.Nat.{mod-eq_of_lt, div-div-eq-div-mul, pow-suc, div-one}
use native.Mathlib.Omega.{arith}
use Rattle.field.specs.Field.{add, xtime, mul_bits, mul}
use Rattle.field.proofs.Addition.{add-self, add-swap}
use Rattle.field.proofs.Multiplication.{xtime-add}
use Rattle.field.proofs.dot.Goals as goal

-- one more bit of b and of d: those above bit j + 1, and bit j
dot-more : (r a b c d i j p q : ℕ) → a < 256 → c < 256 → i ≡ suc j → i ≤ 8
    → p ≡ add (mul_bits r a (8 - i) (b / 2 ^ i)) (mul_bits r c (8 - i) (d / 2 ^ i))
    → q ≡ add (add ((b / 2 ^ j % 2) * a) ((d / 2 ^ j % 2) * c)) (xtime r p)
    → q ≡ add (mul_bits r a (8 - j) (b / 2 ^ j)) (mul_bits r c (8 - j) (d / 2 ^ j))
unfolding mul_bits
dot-more r a b c d i j p q ha hc next fits ep eq =
    let more : 8 - j ≡ suc (8 - i) = omega arith in
    rw more
    (eq
    ∙ ap₂ (λ (x y : ℕ). add (add ((b / 2 ^ j % 2) * x) ((d / 2 ^ j % 2) * y)) (xtime r p)) (sym (mod-eq_of_lt ha)) (sym (mod-eq_of_lt hc))
    ∙ ap (add (add ((b / 2 ^ j % 2) * (a % 256)) ((d / 2 ^ j % 2) * (c % 256))))
    (ap (xtime r) (ep ∙ ap₂ (λ (x y : ℕ). add (mul_bits r a (8 - i) x) (mul_bits r c (8 - i) y)) (half b) (half d)) ∙ xtime-add r _ _)
    ∙ add-swap _ _ _ _)
  where
    half : (b : ℕ) → b / 2 ^ i ≡ b / 2 ^ j / 2
    half b = ap (λ (k : ℕ). b / 2 ^ k) next ∙ ap (λ (k : ℕ). b / k) (pow-suc 2 j) ∙ sym (div-div-eq-div-mul b (2 ^ j) 2)

pub loop-i-init : goal.loop-i-init
unfolding mul_bits
loop-i-init c = sym (add-self 0)

pub loop-i-preserved : goal.loop-i-preserved
loop-i-preserved c = dot-more _ _ _ _ _ c.loop-i.i _ _ _ (omega arith) (omega arith) (omega arith) (omega arith) c.loop-i.invariant c.dot_step-p.ensures

pub returns : goal.returns
unfolding mul
returns c =
    let zero : c.loop-i.i ≡ 0 = omega arith in
    (rw zero at c.loop-i.invariant) ∙ simp div-one
