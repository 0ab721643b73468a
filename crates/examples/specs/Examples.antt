-- Document 01, "Checked examples": the starred ones as one list, each with what it claims of the definitions. One of request P5 ends it.
use Rattle.std.specs.Prelude.{◌≡◌, Bool, List, [], ◌∷◌, ◌++◌, ℕ, ◌<◌, length, get_or, set, replicate}
use Rattle.answer.specs.Values.{Value, gives, refused}
use Rattle.field.specs.Field.{reduction, mul, pow}
use Rattle.solver.specs.Solver.{ErrorAt}
use Rattle.line.specs.Line.{syndrome0, syndrome1, Codeword, corrected}
use Rattle.shape.specs.declared.Shape.{Shape}
use Rattle.shape.specs.Shapes.{cells, cell, IsLine}
use Rattle.shape.specs.Flags.{missing}
use Rattle.stopping.specs.Stopping.{number, Largest}
use Rattle.cube.specs.Calls.{EncodeOutcome}
use Rattle.fill.specs.Fill.{CellsLeft, left, FillOutcome}
use Rattle.mend.specs.Mend.{MendOutcome}

pub data Example : Type 0 where
  -- the product of two elements
  product : (a b c : ℕ) → Example
  -- a line that is right
  right : List ℕ → Example
  -- a data string, the cube before and after encoding, and the answer
  encodes : Shape → (ds before after : List ℕ) → Value Unit → Example
  -- a cube and its flags, both after filling, and the answer
  fills : Shape → (xs fs xs' fs' : List ℕ) → Value CellsLeft → Example
  -- the size of K, by the flags alone
  leaves : Shape → (fs : List ℕ) → (size : ℕ) → Example
  -- a cube, its flags, the second cube before and after mending, and the answer
  mends : Shape → (xs fs before after : List ℕ) → Value Unit → Example
  -- the sums of a line of length n, and the j that is no place of it
  no_place : (v0 v1 n j : ℕ) → Example

-- what an example claims
unfoldable pub Holds : Example → Type 0
Holds (product a b c) = mul reduction a b ≡ c
Holds (right cs) = Codeword reduction (λ i. get_or cs i 0) (length cs)
Holds (encodes sh ds before after value) = EncodeOutcome reduction sh ds before after value
Holds (fills sh xs fs xs' fs' value) = FillOutcome reduction sh xs fs xs' fs' value
Holds (leaves sh fs size) =
    (K : ℕ → Bool) → Largest (cells sh) (IsLine sh) (missing fs) K → number K (cells sh) ≡ size
Holds (mends sh xs fs before after value) = MendOutcome reduction sh xs fs before after value
Holds (no_place v0 v1 n j) =
    (v1 ≡ mul reduction (pow reduction j) v0)
    × ((i : ℕ) → ErrorAt reduction v0 v1 n i → ⊥)
    × ((c : ℕ → ℕ) → syndrome0 c n ≡ v0 → syndrome1 reduction c n ≡ v1 →
    (i : ℕ) → i < n → corrected reduction n c i ≡ c i)

-- every example of a list has the property P
unfoldable pub Each : (Example → Type 0) → List Example → Type 0
Each P [] = Unit
Each P (e ∷ es) = P e × Each P es

-- "3 by 3 by 3, W 1"
unfoldable pub smallest : Shape
smallest = record { l1 = 3; l2 = 3; l3 = 3; w = 1 }

-- "planes 08 0C 04, 0C 0A 06, 04 06 02; 0C 0A 06, 0A 0F 05, 06 05 03; 04 06 02, 06 05 03, 02 03 01 (h)"
unfoldable pub planes : List ℕ
planes =
    0x08 ∷ 0x0C ∷ 0x04 ∷ 0x0C ∷ 0x0A ∷ 0x06 ∷ 0x04 ∷ 0x06 ∷ 0x02 ∷
    0x0C ∷ 0x0A ∷ 0x06 ∷ 0x0A ∷ 0x0F ∷ 0x05 ∷ 0x06 ∷ 0x05 ∷ 0x03 ∷
    0x04 ∷ 0x06 ∷ 0x02 ∷ 0x06 ∷ 0x05 ∷ 0x03 ∷ 0x02 ∷ 0x03 ∷ 0x01 ∷ []

-- a cube of this shape, or its flags, with cell (a,b,c) made v
unfoldable pub made : (a b c v : ℕ) → List ℕ → List ℕ
made a b c v xs = set xs (cell smallest a b c) v

-- "4 by 4 by 3"
unfoldable pub wider : Shape
wider = record { l1 = 4; l2 = 4; l3 = 3; w = 1 }

-- a plane of 4 by 4, row by row: x where a = b, y where a ≠ b
unfoldable pub diagonal : ℕ → ℕ → List ℕ
diagonal x y =
    x ∷ y ∷ y ∷ y ∷
    y ∷ x ∷ y ∷ y ∷
    y ∷ y ∷ x ∷ y ∷
    y ∷ y ∷ y ∷ x ∷ []

-- its three planes
unfoldable pub diagonals : ℕ → ℕ → List ℕ
diagonals x y = diagonal x y ++ diagonal x y ++ diagonal x y

-- "only (2,2,2) = 01h known", and its flags. The bytes of missing cells are FFh: they are not read.
unfoldable pub last_known : List ℕ
last_known = made 2 2 2 0x01 (replicate 27 0xFF)

unfoldable pub last_known_flags : List ℕ
last_known_flags = made 2 2 2 0 (replicate 27 1)

-- The list, in document 01's order, then request P5's.
unfoldable pub examples : List Example
examples =
    -- "02h × 80h = C3h."
    product 0x02 0x80 0xC3 ∷
    -- "02h × E1h = 01h."
    product 0x02 0xE1 0x01 ∷
    -- "Lines 02 03 01 and 01 E0 E1 (h) are right."
    right (0x02 ∷ 0x03 ∷ 0x01 ∷ []) ∷
    right (0x01 ∷ 0xE0 ∷ 0xE1 ∷ []) ∷
    -- "3 by 3 by 3, W 1, data 08h: planes …"
    encodes smallest (0x08 ∷ []) (replicate 27 0xFF) planes (gives tt) ∷
    -- "That cube, only (2,2,2) = 01h known: all filled, left 0."
    fills smallest last_known last_known_flags planes (replicate 27 0) (gives (left 0)) ∷
    -- "Nothing known: left 27."
    fills smallest (replicate 27 0xFF) (replicate 27 1) (replicate 27 0x00) (replicate 27 1) (gives (left 27)) ∷
    -- "4 by 4 by 3, missing where a ≠ b: left 36": of K alone; and of filling, the known cells being those of the code cube 00h
    leaves wider (diagonals 0 1) 36 ∷
    fills wider (diagonals 0x00 0xFF) (diagonals 0 1) (replicate 48 0x00) (diagonals 0 1) (gives (left 36)) ∷
    -- "That first cube with (0,0,0) missing and (2,2,2) made 00h: 13."
    fills smallest
    (made 0 0 0 0xFF (made 2 2 2 0x00 planes)) (made 0 0 0 1 (replicate 27 0))
    (made 0 0 0 0x00 (made 2 2 2 0x00 planes)) (made 0 0 0 1 (replicate 27 0)) (refused 13) ∷
    -- "The first cube again as listed, but (1,1,1) made 00h, none missing: mending restores 0Fh."
    mends smallest (made 1 1 1 0x00 planes) (replicate 27 0) (replicate 27 0xFF) planes (gives tt) ∷
    -- "Length 3, sums 01h and 08h: j = 3, unmended."
    no_place 0x01 0x08 3 3 ∷
    -- "Flags gain 2, known and unsent, which filling treats as known and keeps.": the filling above, its known cell unsent
    fills smallest last_known (made 2 2 2 2 last_known_flags) planes (made 2 2 2 2 (replicate 27 0)) (gives (left 0)) ∷ []
