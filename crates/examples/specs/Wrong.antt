-- Document 01, "Promises and proofs": what a contract must throw out. Each wrong program is an outcome that it would have on the paper's own cube
-- and that no contract allows. Those of the receiver that need a pack stand in the crate `demands`.
use Rattle.std.specs.Prelude.{List, [], ◌∷◌, ℕ, replicate}
use Rattle.answer.specs.Values.{gives, refused}
use Rattle.fill.specs.Fill.{left}
use Rattle.examples.specs.Examples.{Example, encodes, fills, mends, Holds, smallest, planes, made, last_known, last_known_flags}

-- the claim of an example is false
unfoldable pub Excluded : Example → Type 0
Excluded e = Holds e → ⊥

-- the first cube with the same error in two cells of a line of axis 1, in each of two such lines: a line of axis 1 has v0 = 00h and keeps its
-- bytes. The two lines lie side by side along axis 3, so that those of axis 3 keep them too, and only those of axis 2 have one error;
unfoldable pub second_needed : List ℕ
second_needed = made 0 0 0 0x09 (made 1 0 0 0x0D (made 0 0 1 0x0D (made 1 0 1 0x0B planes)))

-- or along axis 2, so that only those of axis 3 have one error.
unfoldable pub third_needed : List ℕ
third_needed = made 0 0 0 0x09 (made 1 0 0 0x0D (made 0 1 0 0x0D (made 1 1 0 0x0B planes)))

-- The list, in document 01's order.
unfoldable pub wrong : List Example
wrong =
    -- "a receiver that says Left before any filling": nothing is filled, and the count is that of the missing cells
    fills smallest last_known last_known_flags (made 2 2 2 0x01 (replicate 27 0x00)) last_known_flags (gives (left 26)) ∷
    -- "and one that invents its count": the filling is there, the count is not K's
    fills smallest last_known last_known_flags planes (replicate 27 0) (gives (left 27)) ∷
    -- "one that refuses 13 whenever it likes": a filling exists
    fills smallest last_known last_known_flags (made 2 2 2 0x01 (replicate 27 0x00)) last_known_flags (refused 13) ∷
    -- "a writer that copies data and leaves parity 00h"
    encodes smallest (0x08 ∷ []) (replicate 27 0xFF) (made 0 0 0 0x08 (replicate 27 0x00)) (gives tt) ∷
    -- "a mender whose first pass does all while the next two idle": the passes by axis 2 and by axis 3 mend what the others leave
    mends smallest second_needed (replicate 27 0) (replicate 27 0xFF) (replicate 27 0x00) (refused 16) ∷
    mends smallest third_needed (replicate 27 0) (replicate 27 0xFF) (replicate 27 0x00) (refused 16) ∷ []
