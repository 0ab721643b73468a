-- Stopping sets (document 01, "Filling": stuck sets). A set of cells is a test of cell numbers below `cells`; a family of lines gives its
-- lines by first cell, stride and length.
use Rattle.std.specs.Prelude.{◌≡◌, Bool, true, cond, ◌⊎◌, ℕ, zero, suc, ◌+◌, ◌*◌, ◌≤◌, ◌<◌}

-- how many numbers below n are in the set P
unfoldable pub number : (ℕ → Bool) → ℕ → ℕ
number P zero = 0
number P (suc n) = number P n + cond (P n) 1 0

-- how many places of a line are in the set S
unfoldable pub on_line : (ℕ → Bool) → ℕ → ℕ → ℕ → ℕ
on_line S first stride len = number (λ i. S (first + stride * i)) len

-- "A stuck set is a set of missing cells that meets every line in none or in at least three."
pub record Stopping (cells : ℕ) (L : ℕ → ℕ → ℕ → Type 0) (M S : ℕ → Bool) : Type 0 where
  pub inside : (n : ℕ) → n < cells → S n ≡ true → M n ≡ true
  pub meets :
      (first stride len : ℕ) → L first stride len →
      (on_line S first stride len ≡ 0) ⊎ (3 ≤ on_line S first stride len)

-- "K is the largest, the union of all."
pub record Largest (cells : ℕ) (L : ℕ → ℕ → ℕ → Type 0) (M K : ℕ → Bool) : Type 0 where
  pub stopping : Stopping cells L M K
  pub every : (S : ℕ → Bool) → Stopping cells L M S → (n : ℕ) → n < cells → S n ≡ true → K n ≡ true
