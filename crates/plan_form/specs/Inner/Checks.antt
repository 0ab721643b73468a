-- What the checks of the three sections promise.
use Rattle.std.specs.Prelude.{◌≡◌, List, ◌≢◌, ℕ, ◌+◌, ◌-◌, ◌*◌, ◌≤◌, ◌<◌, length, get_or}
use Rattle.plan_form.specs.declared.sections.Section.{Section}
use Rattle.plan_form.specs.Entries.{Entries, closure_at, closure_of, fibre_number, first_of, second_of}

-- the first r of n entries keep their rule, and the next, if there is one, does not
pub record FirstKept (Rule : ℕ → Type 0) (n r : ℕ) : Type 0 where
  pub bound : r ≤ n
  pub before : (j : ℕ) → j < r → Rule j
  pub here : r < n → Rule r → ⊥

-- a section's entries of so many bytes lie inside
abbrev pub Inside : ℕ → List ℕ → Section → Type 0
Inside size xs s = s.at + size * s.count ≤ length xs

-- the closures before q are below the one that is sought
pub record Walked (C : Entries) (n sought q : ℕ) : Type 0 where
  pub bound : q ≤ n
  pub below : (j : ℕ) → j < q → closure_at C j < sought

-- every fibre keeps its rule, as far as the splices need it
pub record FibresKept (F : Entries) (n : ℕ) : Type 0 where
  pub to_288 : (x : ℕ) → x < n → fibre_number F x ≤ 288
  pub ascending : (x y : ℕ) → x < y → y < n → closure_of F x ≤ closure_of F y
  pub different : (x y : ℕ) → x < y → y < n → closure_of F x ≡ closure_of F y → fibre_number F x ≢ fibre_number F y

-- The first index is not below `above`, and the second keeps its rule but for fibres that are joined already.
pub record InRank (F : Entries) (n above a b : ℕ) : Type 0 where
  pub risen : above ≤ a
  pub lower : a < b
  pub fibres : b < n
  pub same_closure : closure_of F a ≡ closure_of F b

-- Fibre x bears the mark of its closure: at its number stands the closure's, and one more.
abbrev pub Marked : Entries → List ℕ → ℕ → Type 0
Marked F marks x = get_or marks (fibre_number F x) 0 ≡ closure_of F x + 1

-- The marks after k splices, with `above` behind the last first index: of the fibres from there on, exactly the second ones bear theirs.
pub record Marks (F : Entries) (n : ℕ) (S : Entries) (k above : ℕ) (marks : List ℕ) : Type 0 where
  pub size : length marks ≡ 289
  pub start : k ≡ 0 → above ≡ 0
  pub follows : 0 < k → above ≡ first_of S (k - 1) + 1
  pub firsts : (j : ℕ) → j < k → first_of S j < above
  pub seconds : (j : ℕ) → j < k → above ≤ second_of S j → Marked F marks (second_of S j)
  pub joined : (x : ℕ) → above ≤ x → x < n → Marked F marks x → (j : ℕ) × (j < k) × (second_of S j ≡ x)
