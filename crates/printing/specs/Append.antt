-- Text put into a lent buffer behind what stands there: cut where the buffer ends.
use Rattle.std.specs.Prelude.{◌≡◌, List, ◌++◌, ℕ, ◌≤◌, length, take, drop}

-- The first `end` bytes are the first `at` bytes and the text behind them, as far as the buffer goes; every byte after them is kept.
pub record Appended (before : List ℕ) (at : ℕ) (text after : List ℕ) (end : ℕ) : Type 0 where
  pub size : length after ≡ length before
  pub inside : end ≤ length before
  pub written : take end after ≡ take (length before) (take at before ++ text)
  pub kept : drop end after ≡ drop end before
