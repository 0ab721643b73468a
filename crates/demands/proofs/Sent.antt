-- The cells that the packets of a sequence name, and how many of the packets repeat an earlier one: the packets less the different cells.
use mathlib.Core.Path.{◌≡◌, refl, sym, ap, ◌∙◌}
use mathlib.Core.Bool.{true, false}
use mathlib.Core.Logic.{◌≢◌, ⊎_elim}
use Prim.Native.Nat.{ℕ, zero, suc, ◌+◌, ◌<◌}
use native.Mathlib.Decide.{ℕ_discrete}
use native.Mathlib.Omega.{arith}
use borrow.Author.Tests.{eq-eqb, ne_eqb}
use Rattle.stopping.specs.Stopping.{number}
use Rattle.stopping.proofs.Number.{true-or-false, number_in, number-out, number-nil, number-none, number-cong, number-remove}
use Rattle.pack.specs.Packets.{Source}
use Rattle.receiver.specs.Placing.{among, repeats_of}
use Rattle.receiver.proofs.Copies.{among-cong}

-- ---- two sequences that name the same cells

pub repeats-cong : (s t : Source) (n : ℕ) → ((i : ℕ) → i < n → s.place i ≡ t.place i) → repeats_of s n ≡ repeats_of t n
unfolding repeats_of
repeats-cong s t n same =
    number-cong _ _ n (λ i l. ap (among s i) (same i l) ∙ among-cong s t i (λ j less. same j (omega arith)) (t.place i))

-- ---- those that repeat an earlier one, and the different ones

module _ (s : Source) where
  among-new : (n : ℕ) → among s (suc n) (s.place n) ≡ true
  unfolding among
  among-new n = rw (eq-eqb (s.place n) (s.place n) refl)

  among-other : (n m : ℕ) → s.place n ≢ m → among s (suc n) m ≡ among s n m
  unfolding among
  among-other n m ne = rw (ne_eqb (s.place n) m ne)

  -- a cell that came again
  among-again : (n : ℕ) → among s n (s.place n) ≡ true → (m : ℕ) → among s (suc n) m ≡ among s n m
  among-again n e m =
      elim (ℕ_discrete (s.place n) m) [
        | yes f ↦ ap (among s (suc n)) (sym f) ∙ among-new n ∙ sym e ∙ ap (among s n) f
        | no ne ↦ among-other n m ne
      ]

  pub repeats-different : (n N : ℕ) → ((i : ℕ) → i < n → s.place i < N) → repeats_of s n + number (among s n) N ≡ n
  unfolding repeats_of among
  repeats-different zero N h = omega (arith, number-nil (λ i. among s i (s.place i)), number-none (among s 0) N (λ i l. refl))
  repeats-different (suc n) N h =
      let below : number (λ i. among s i (s.place i)) n + number (among s n) N ≡ n = repeats-different n N (λ i l. h i (omega arith)) in
      ⊎_elim
      (λ (e : among s n (s.place n) ≡ true).
      let same : number (among s (suc n)) N ≡ number (among s n) N = number-cong (among s (suc n)) (among s n) N (λ m l. among-again n e m) in
      omega (arith, number_in (λ i. among s i (s.place i)) n e))
      (λ (e : among s n (s.place n) ≡ false).
      let more : number (among s (suc n)) N ≡ number (among s n) N + 1 =
      number-remove (among s (suc n)) (among s n) N (s.place n) (h n (omega arith)) (among-new n) e
      (λ m l ne. among-other n m (λ f. ne (sym f))) in
      omega (arith, number-out (λ i. among s i (s.place i)) n e))
      (true-or-false (among s n (s.place n)))
