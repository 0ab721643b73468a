-- What a step of the walk along the data string gives.
use Rattle.std.specs.Prelude.{◌≡◌, ◌+◌, ◌≤◌, ◌<◌, Option, MatchOption}
use Rattle.data.specs.declared.place.Piece.{Piece}
use Rattle.data.specs.declared.place.Pieces.{Pieces}
use Rattle.data.specs.Inner.Place.{Standing}

-- A piece begins where the walk is, lies in the stretch there, and ends where the walk goes on, at a stretch again.
pub record Step (s : Pieces) (p : Piece) (t : Pieces) : Type 0 where
  pub less : s.q < s.end
  pub byte : p.q ≡ s.q
  pub place : p.at ≡ s.next.at
  pub part : p.len ≤ s.next.len
  pub next : t.q ≡ s.q + p.len
  pub shape : t.sh ≡ s.sh
  pub end : t.end ≡ s.end
  pub stands : t.q < t.end → Standing t.sh t.q t.next

-- There is a next piece up to the end.
abbrev pub walks : Pieces → Option Piece → Pieces → Type 0
walks s r t = MatchOption r (s.end ≤ s.q) (λ p. Step s p t)
