-- Data places that are copied: what the functions of `encoder` owe one another.
use Rattle.std.specs.Prelude.{◌≡◌, List, ℕ, ◌<◌, length, get_or}
use Rattle.line.specs.declared.Run.{Run}
use Rattle.line.specs.Run.{line_at, Off}

-- The data places of each line of `to` hold the lines of `from` in ds.
pub record DataPlaced (from to : Run) (ds before after : List ℕ) : Type 0 where
  pub size : length after ≡ length before
  pub kept : (p : ℕ) → ((i : ℕ) → i < from.len → Off to i p) → get_or after p 0 ≡ get_or before p 0
  pub placed :
      (t : ℕ) → t < to.width → (i : ℕ) → i < from.len → line_at after to t i ≡ line_at ds from t i
