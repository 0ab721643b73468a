-- What the private functions of `packets` answer.
use Rattle.std.specs.Prelude.{◌≡◌, Bool, true, false, cond, List, ℕ, ◌≤◌, ◌<◌, leb, ltb, Option, Some, None, MatchOption}
use Rattle.shape.specs.declared.Shape.{Shape}
use Rattle.shape.specs.Shapes.{both, cell}
use Rattle.pack.specs.declared.Header.{Header}
use Rattle.pack.specs.declared.Section.{Section}
use Rattle.pack.specs.Packs.{unsent}
use Rattle.pack.specs.Packets.{source, OnCube}

-- the limits of `Stands` on a header
unfoldable pub within_limits : Shape → Bool
within_limits sh = both (leb sh.l1 255) (both (leb sh.l2 255) (leb sh.w 1024))

-- the cell that a, b and c name, where they are below their lengths, and where its bytes begin
unfoldable pub named_by : Shape → ℕ → ℕ → ℕ → ℕ → Option (ℕ × ℕ)
named_by sh a b c at =
    cond (both (ltb a sh.l1) (both (ltb b sh.l2) (ltb c sh.l3))) (Some (cell sh a b c, at)) None

-- packet r, or the count, is the first that names no cell of the cube (`first_off`)
pub record FirstOff (p : List ℕ) (h : Header) (s : Section) (r : ℕ) : Type 0 where
  pub bound : r ≤ s.count
  pub before : (i : ℕ) → i < r → OnCube p h s i
  pub here : r < s.count → OnCube p h s r → ⊥

-- what `first_unsent` answers: the first packet before the end whose cell is not sent
abbrev pub FirstUnsent : List ℕ → Header → Section → ℕ → Option ℕ → Type 0
FirstUnsent p h s end r =
    MatchOption r ((i : ℕ) → i < end → unsent h ((source p h s).place i) ≡ false)
    (λ i.
    (i < end) × (unsent h ((source p h s).place i) ≡ true)
    × ((j : ℕ) → j < i → unsent h ((source p h s).place j) ≡ false))
