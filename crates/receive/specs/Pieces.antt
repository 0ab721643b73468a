-- The output of Receive in pieces, which are written one behind the other.
use Rattle.std.specs.Prelude.{◌≡◌, List, ℕ, zero, suc, ◌+◌, ◌-◌, ◌*◌, ◌/◌, min}
use Rattle.receive.specs.declared.receiving.Outcome.{Outcome}
use Rattle.receive.specs.Printed.{opening_lines, joined, texts, text_of, printed}

-- piece 0 is the opening lines, each later one a run of 512 texts, the last a shorter one
unfoldable pub piece : List ℕ → List ℕ → Outcome → ℕ → List ℕ
piece fs bs o zero = opening_lines o
piece fs bs o (suc k) = joined (text_of fs bs o) (512 * k) (min 512 (texts o - 512 * k))

-- how many pieces there are
unfoldable pub pieces : Outcome → ℕ
pieces o = 1 + (texts o + 511) / 512

-- Theorem: the pieces one behind the other are the whole output.
unfoldable pub PiecesJoined : Type 0
PiecesJoined = (fs bs : List ℕ) (o : Outcome) → joined (piece fs bs o) 0 (pieces o) ≡ printed fs bs o
