-- A plan has few entries: closures are numbers of two bytes and ascend, pairs of two such numbers too, and each splice has a first fibre of its own.
use mathlib.Core.Path.{◌≡◌}
use mathlib.Core.Logic.{inl, inr}
use Prim.Native.Nat.{ℕ, zero, suc, ◌+◌, ◌-◌, ◌*◌, ◌≤◌, ◌<◌}
use native.Mathlib.Omega.{arith}
use Rattle.plan_form.specs.Entries.{Bytes, Entries, closure_at, ClosureRule, closure_of, fibre_number, Precedes, FibreRule, first_of, SpliceRule}
use Rattle.plan_form.proofs.Halves.{half_lt}

-- what ascends from one to the next has risen to k at k
ascending-high : (f : ℕ → ℕ) (k : ℕ) → ((j : ℕ) → 0 < j → j < suc k → f (j - 1) < f j) → k ≤ f k
ascending-high f zero up = omega arith
ascending-high f (suc k) up =
    let e : suc k - 1 ≡ k = omega arith in
    let step : f k < f (suc k) = rw e at (up (suc k) (omega arith) (omega arith)) in
    omega (arith, ascending-high f k (λ j some l. up j some (omega arith)))

-- ---- closures

module _ (C : Entries) (small : Bytes C.bytes) where
  closure-high : (k : ℕ) → ((j : ℕ) → j < suc k → ClosureRule C j) → k ≤ closure_at C k
  closure-high k kept = ascending-high (closure_at C) k (λ j some l. (kept j l).ascending some)

  pub closures-few : (k : ℕ) → ((j : ℕ) → j < k → ClosureRule C j) → k ≤ 65536
  unfolding closure_at
  closures-few zero kept = omega arith
  closures-few (suc k) kept = omega (arith, closure-high k kept, half_lt C.bytes (C.at + 2 * k) small)

-- ---- fibres

module _ (C : Entries) (n : ℕ) (F : Entries) (small : Bytes F.bytes) where
  number_lt : (x : ℕ) → fibre_number F x < 65536
  unfolding fibre_number
  number_lt x = half_lt F.bytes (F.at + 4 * x + 2) small

  pair_lt : (x y : ℕ) → Precedes F x y → closure_of F x * 65536 + fibre_number F x < closure_of F y * 65536 + fibre_number F y
  unfolding Precedes
  pair_lt x y (inl l) = omega (arith, number_lt x)
  pair_lt x y (inr (e, l)) = omega arith

  pair-high : (k : ℕ) → ((j : ℕ) → j < suc k → FibreRule C n F j) → k ≤ closure_of F k * 65536 + fibre_number F k
  pair-high k kept = ascending-high (λ x. closure_of F x * 65536 + fibre_number F x) k (λ j some l. pair_lt (j - 1) j ((kept j l).ascending some))

  pub fibres-few : (k : ℕ) → ((j : ℕ) → j < k → FibreRule C n F j) → k < 4294967296
  unfolding closure_of
  fibres-few zero kept = omega arith
  fibres-few (suc k) kept = omega (arith, pair-high k kept, (kept k (omega arith)).to_288, half_lt F.bytes (F.at + 4 * k) small)

-- ---- splices

module _ (F : Entries) (n : ℕ) (S : Entries) where
  first-high : (k : ℕ) → ((j : ℕ) → j < suc k → SpliceRule F n S j) → k ≤ first_of S k
  first-high k kept = ascending-high (first_of S) k (λ j some l. (kept j l).ascending some)

  pub splices-few : (k : ℕ) → ((j : ℕ) → j < k → SpliceRule F n S j) → k ≤ n
  splices-few zero kept = omega arith
  splices-few (suc k) kept = omega (arith, first-high k kept, (kept k (omega arith)).lower, (kept k (omega arith)).fibres)
