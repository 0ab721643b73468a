-- Answers that decide a statement, and calls that do their work exactly where one holds.
use Rattle.std.specs.Prelude.{◌≡◌, Bool, true, false, List, ℕ}

-- The answer is true exactly when P holds.
pub record Decides (P : Type 0) (answer : Bool) : Type 0 where
  pub yes_when : P → answer ≡ true
  pub yes_then : answer ≡ true → P

-- Done where P holds, and Refused where it does not.
pub record Cases (P Done Refused : Type 0) : Type 0 where
  pub done : P → Done
  pub refused : (P → ⊥) → Refused

-- Where P holds the work is done and the answer true; else every byte is as it was and the answer false.
abbrev pub Guarded : Type 0 → Type 0 → List ℕ → List ℕ → Bool → Type 0
Guarded P Work before after answer =
    Cases P ((answer ≡ true) × Work) ((answer ≡ false) × (after ≡ before))
