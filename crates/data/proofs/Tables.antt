-- Lists made from functions: their lengths and places.
use mathlib.Core.Path.{◌≡◌, refl, ap}
use Prim.Native.Nat.{ℕ, zero, suc, ◌<◌}
use native.Mathlib.Omega.{arith}
use lib.ListN.{length, get_or}
use Rattle.data.specs.Tables.{tabulate}

module _ {A : Type 0} where
  pub length-tabulate : (n : ℕ) (f : ℕ → A) → length (tabulate n f) ≡ n
  unfolding tabulate
  length-tabulate zero f = refl
  length-tabulate (suc n) f = ap suc (length-tabulate n (λ i. f (suc i)))

  pub get_d_tabulate : (n : ℕ) (f : ℕ → A) (d : A) (i : ℕ) → i < n → get_or (tabulate n f) i d ≡ f i
  unfolding tabulate
  get_d_tabulate zero f d i l = absurd (omega arith)
  get_d_tabulate (suc n) f d zero l = refl
  get_d_tabulate (suc n) f d (suc i) l = get_d_tabulate n (λ k. f (suc k)) d i (omega arith)

-- bytes everywhere, past the end too
pub tabulate-lt : (n : ℕ) (f : ℕ → ℕ) → ((i : ℕ) → i < n → f i < 256) → (i : ℕ) → get_or (tabulate n f) i 0 < 256
unfolding tabulate
tabulate-lt zero f h i = omega arith
tabulate-lt (suc n) f h zero = h 0 (omega arith)
tabulate-lt (suc n) f h (suc i) = tabulate-lt n (λ k. f (suc k)) (λ k l. h (suc k) (omega arith)) i
