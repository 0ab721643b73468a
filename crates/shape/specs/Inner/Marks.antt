-- Flags between the steps of a call.
use Rattle.std.specs.Prelude.{◌≡◌, Bool, true, false, List, ℕ, ◌<◌, eqb, length, get_or}

-- the flag of cell n is the mark
unfoldable pub is_marked : List ℕ → ℕ → Bool
is_marked fs n = eqb (get_or fs n 0) 3

-- the marks have become v, the other flags are as before
pub record Remarked (v : ℕ) (fs fs' : List ℕ) : Type 0 where
  pub size : length fs' ≡ length fs
  pub marks : (n : ℕ) → n < length fs → is_marked fs n ≡ true → get_or fs' n 0 ≡ v
  pub others : (n : ℕ) → is_marked fs n ≡ false → get_or fs' n 0 ≡ get_or fs n 0
