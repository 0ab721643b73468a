-- The count of the flags that are 1, as flags are written one after the other.
use mathlib.Core.Path.{◌≡◌, sym, ap, ◌∙◌}
use mathlib.Core.List.{List}
use mathlib.Core.Logic.{◌≢◌}
use Prim.Native.Nat.{ℕ, ◌+◌, ◌<◌}
use native.Mathlib.Numerals.{add-one}
use native.Mathlib.Omega.{arith}
use borrow.Author.Tests.{eq-eqb, ne_eqb}
use lib.Dec.{eqb}
use lib.ListN.{length, get_or, set}
use lib.Seq.{get_or-set_same, get_or-set_other}
use Rattle.stopping.specs.Stopping.{number}
use Rattle.stopping.proofs.Number.{number_in, number-out, number-cong}
use Rattle.shape.specs.Flags.{missing}

missing-in : (fs : List ℕ) (n : ℕ) → get_or fs n 0 ≡ 1 → number (missing fs) (n + 1) ≡ number (missing fs) n + 1
unfolding missing
missing-in fs n e = ap (number (missing fs)) (add-one n) ∙ number_in (missing fs) n (eq-eqb (get_or fs n 0) 1 e)

missing-out : (fs : List ℕ) (n : ℕ) → get_or fs n 0 ≢ 1 → number (missing fs) (n + 1) ≡ number (missing fs) n
unfolding missing
missing-out fs n ne = ap (number (missing fs)) (add-one n) ∙ number-out (missing fs) n (ne_eqb (get_or fs n 0) 1 ne)

-- a flag at or above n does not count below it
missing-below : (fs : List ℕ) (n v : ℕ) → number (missing (set fs n v)) n ≡ number (missing fs) n
unfolding missing
missing-below fs n v =
    number-cong (missing (set fs n v)) (missing fs) n
    (λ i l. ap (λ (f : ℕ). eqb f 1) (get_or-set_other fs n i v 0 (omega arith)))

-- with v written at n the count is one further
module _ (fs : List ℕ) (n v : ℕ) (inside : n < length fs) where
  pub counted-in : v ≡ 1 → number (missing (set fs n v)) (n + 1) ≡ number (missing fs) n + 1
  counted-in e = missing-in (set fs n v) n (get_or-set_same fs n v 0 inside ∙ e) ∙ ap (λ (k : ℕ). k + 1) (missing-below fs n v)

  pub counted-out : v ≢ 1 → number (missing (set fs n v)) (n + 1) ≡ number (missing fs) n
  counted-out ne = missing-out (set fs n v) n (λ e. ne (sym (get_or-set_same fs n v 0 inside) ∙ e)) ∙ missing-below fs n v
