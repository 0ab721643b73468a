-- The place of a single error: the only one where α is primitive, the first in any case, found power by power.
use mathlib.Core.Path.{◌≡◌, sym, ap, subst, ◌∙◌}
use mathlib.Core.Logic.{◌≢◌}
use Prim.Native.Nat.{ℕ, zero, suc, ◌+◌, ◌≤◌, ◌<◌}
use native.Mathlib.Numerals.{add-one}
use native.Mathlib.Decide.{ℕ_discrete, dec_lt}
use native.Mathlib.Omega.{arith}
use lib.Dec.{eqb}
use Rattle.field.specs.Field.{xtime, mul, pow, Primitive}
use Rattle.field.proofs.Multiplication.{mul_comm, mul-one-l, xtime-mul-l}
use Rattle.field.proofs.Power.{pow-lt, pow-zero, pow-suc, mul-cancel}
use Rattle.solver.specs.Solver.{ErrorAt, pick, error_place}
use Rattle.solver.proofs.Pick.{pick-eq, pick-ne}

-- ---- the place

-- a nonzero byte times two powers of α
pub factor-unique : (r v i j : ℕ) → Primitive r → v < 256 → v ≢ 0 → i < 255 → j < 255 → mul r (pow r i) v ≡ mul r (pow r j) v → i ≡ j
factor-unique r v i j p byte ne li lj e =
    p.different i j li lj
    (mul-cancel r v (pow r i) (pow r j) p byte (pow-lt r i p.fits) (pow-lt r j p.fits)
    (mul_comm r v (pow r i) ∙ e ∙ mul_comm r (pow r j) v) ne)

pub error-unique : (r v0 v1 n j k : ℕ) → Primitive r → n ≤ 255 → v0 < 256 → ErrorAt r v0 v1 n j → ErrorAt r v0 v1 n k → j ≡ k
error-unique r v0 v1 n j k p few byte a b =
    let lj : j < 255 = omega (arith, a.below) in
    let lk : k < 255 = omega (arith, b.below) in
    factor-unique r v0 j k p byte a.first_nonzero lj lk (sym a.factor ∙ b.factor)

-- ---- the first place

-- j is the first place below n at which v0 times the power of α is v1, or n.
pub record First (r v0 v1 n j : ℕ) : Type 0 where
  pub most : j ≤ n
  pub found : j < n → v1 ≡ mul r (pow r j) v0
  pub earlier : (i : ℕ) → i < j → v1 ≢ mul r (pow r i) v0

-- the same for one place more
first-last : (r v0 v1 n : ℕ) → First r v0 v1 n n → First r v0 v1 (suc n) (pick (eqb v1 (mul r (pow r n) v0)) n (suc n))
first-last r v0 v1 n before =
    elim (ℕ_discrete v1 (mul r (pow r n) v0)) [
      | yes here ↦
          rw (pick-eq v1 (mul r (pow r n) v0) n (suc n) here)
          (record { most = omega arith; found = λ l. here; earlier = before.earlier })
      | no not ↦
          rw (pick-ne v1 (mul r (pow r n) v0) n (suc n) not)
          (record {
            most = omega arith;
            found = λ l. absurd (omega arith);
            earlier = λ i l. elim (ℕ_discrete i n) [ yes e ↦ rw e not | no ne ↦ before.earlier i (omega arith) ];
          })
    ]

first_more : (r v0 v1 n j : ℕ) → First r v0 v1 n j → First r v0 v1 (suc n) (pick (eqb j n) (pick (eqb v1 (mul r (pow r n) v0)) n (suc n)) j)
first_more r v0 v1 n j before =
    elim (ℕ_discrete j n) [
      | yes none ↦
          rw (pick-eq j n (pick (eqb v1 (mul r (pow r n) v0)) n (suc n)) j none)
          (first-last r v0 v1 n (subst (First r v0 v1 n) none before))
      | no some ↦
          rw (pick-ne j n (pick (eqb v1 (mul r (pow r n) v0)) n (suc n)) j some)
          (record {
            most = omega (arith, before.most);
            found = λ l. before.found (omega (arith, before.most));
            earlier = before.earlier;
          })
    ]

pub first-place : (r v0 v1 n : ℕ) → First r v0 v1 n (error_place r v0 v1 n)
unfolding error_place
first-place r v0 v1 zero = record { most = omega arith; found = λ l. absurd (omega arith); earlier = λ i l. absurd (omega arith) }
first-place r v0 v1 (suc n) = first_more r v0 v1 n (error_place r v0 v1 n) (first-place r v0 v1 n)

-- the only number that is first
pub error-place-first : (r v0 v1 n j : ℕ) → j < n → v1 ≡ mul r (pow r j) v0 → ((i : ℕ) → i < j → v1 ≢ mul r (pow r i) v0)
    → error_place r v0 v1 n ≡ j
error-place-first r v0 v1 n j below factor earlier =
    elim (dec_lt (error_place r v0 v1 n) j) [
      | yes l ↦ absurd (earlier _ l (first.found (omega arith)))
      | no m ↦ elim (dec_lt j (error_place r v0 v1 n)) [ yes l ↦ absurd (first.earlier j l factor) | no k ↦ omega arith ]
    ]
  where
    first : First r v0 v1 n (error_place r v0 v1 n)
    first = first-place r v0 v1 n

-- where α is primitive an error's place is the first
pub error-place-only : (r v0 v1 n j : ℕ) → Primitive r → n ≤ 255 → v0 < 256 → ErrorAt r v0 v1 n j → error_place r v0 v1 n ≡ j
error-place-only r v0 v1 n j p few byte a =
    error-place-first r v0 v1 n j a.below a.factor
    (λ i l e.
    let b : ErrorAt r v0 v1 n i =
    record { first_nonzero = a.first_nonzero; second_nonzero = a.second_nonzero; below = omega (arith, a.below); factor = e }
    in
    let same : i ≡ j = error-unique r v0 v1 n i j p few byte b a in
    omega arith)

-- ---- the search

pub power-first : (r v : ℕ) → v < 256 → v ≡ mul r (pow r 0) v
power-first r v h = sym (ap (λ (x : ℕ). mul r x v) (pow-zero r) ∙ mul-one-l r v h)

pub power-next : (r v j p : ℕ) → r < 256 → p ≡ mul r (pow r j) v → xtime r p ≡ mul r (pow r (j + 1)) v
power-next r v j p fits e =
    ap (xtime r) e ∙ xtime-mul-l r (pow r j) v fits
    ∙ ap (λ (x : ℕ). mul r x v) (sym (pow-suc r j) ∙ ap (pow r) (sym (add-one j)))
