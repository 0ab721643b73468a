-- Fibres that keep their rules: pairs ascend along any distance, so closures do not descend and no pair stands twice.
use mathlib.Core.Path.{◌≡◌}
use mathlib.Core.Logic.{◌≢◌, inl, inr}
use Prim.Native.Nat.{ℕ, zero, suc, ◌+◌, ◌-◌, ◌≤◌, ◌<◌}
use native.Mathlib.Omega.{arith}
use Rattle.plan_form.specs.Entries.{Entries, closure_at, ClosureRule, closure_of, fibre_number, Precedes, FibreRule}
use Rattle.plan_form.specs.Inner.Checks.{FibresKept}

-- what holds of neighbours, and passes from one to the next, holds at any distance
module _ (R : ℕ → ℕ → Type 0) (passes : (x y z : ℕ) → R x y → R y z → R x z) (n : ℕ) (next : (k : ℕ) → 0 < k → k < n → R (k - 1) k) where
  apart : (a d : ℕ) → a + suc d < n → R a (a + suc d)
  apart a zero l = let e : a + 1 - 1 ≡ a = omega arith in rw e at (next (a + 1) (omega arith) (omega arith))
  apart a (suc d) l =
      let e : a + suc (suc d) - 1 ≡ a + suc d = omega arith in
      passes a (a + suc d) (a + suc (suc d)) (apart a d (omega arith)) (rw e at (next (a + suc (suc d)) (omega arith) (omega arith)))

  at-any-distance : (a b : ℕ) → a < b → b < n → R a b
  at-any-distance a b l m = let e : a + suc (b - a - 1) ≡ b = omega arith in rw e at (apart a (b - a - 1) (omega arith))

-- ---- closures

module _ (C : Entries) (n : ℕ) (kept : (k : ℕ) → k < n → ClosureRule C k) where
  pub closures-ascend : (a b : ℕ) → a < b → b < n → closure_at C a < closure_at C b
  closures-ascend =
      at-any-distance (λ a b. closure_at C a < closure_at C b) (λ x y z l m. omega arith) n (λ k some l. (kept k l).ascending some)

-- ---- fibres

module _ (F : Entries) where
  precedes-trans : (x y z : ℕ) → Precedes F x y → Precedes F y z → Precedes F x z
  unfolding Precedes
  precedes-trans x y z (inl a) (inl b) = inl (omega arith)
  precedes-trans x y z (inl a) (inr (e, b)) = inl (omega arith)
  precedes-trans x y z (inr (e, a)) (inl b) = inl (omega arith)
  precedes-trans x y z (inr (e, a)) (inr (f, b)) = inr (omega arith, omega arith)

  precedes-le : (x y : ℕ) → Precedes F x y → closure_of F x ≤ closure_of F y
  unfolding Precedes
  precedes-le x y (inl a) = omega arith
  precedes-le x y (inr (e, a)) = omega arith

  precedes-different : (x y : ℕ) → Precedes F x y → closure_of F x ≡ closure_of F y → fibre_number F x ≢ fibre_number F y
  unfolding Precedes
  precedes-different x y (inl a) same e = omega arith
  precedes-different x y (inr (_, a)) same e = omega arith

module _ (C : Entries) (m : ℕ) (F : Entries) (n : ℕ) (kept : (k : ℕ) → k < n → FibreRule C m F k) where
  pub fibres-ascend : (a b : ℕ) → a < b → b < n → Precedes F a b
  fibres-ascend = at-any-distance (Precedes F) (precedes-trans F) n (λ k some l. (kept k l).ascending some)

  pub fibres-kept : FibresKept F n
  fibres-kept =
      record {
        to_288 = λ x l. (kept x l).to_288;
        ascending = λ x y l m. precedes-le F x y (fibres-ascend x y l m);
        different = λ x y l m. precedes-different F x y (fibres-ascend x y l m);
      }
