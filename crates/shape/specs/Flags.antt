-- Flags (document 01, "Filling"): one byte a cell, 0 known, 1 missing. Request P5: "Flags gain 2, known and unsent".
use Rattle.std.specs.Prelude.{Bool, true, not, List, [], ◌∷◌, ℕ, eqb, leb, get_or}
use Rattle.shape.specs.Shapes.{both}

-- cell n is missing
unfoldable pub missing : List ℕ → ℕ → Bool
missing fs n = eqb (get_or fs n 0) 1

-- every flag is 0, 1 or 2
unfoldable pub flags_valid : List ℕ → Bool
flags_valid [] = true
flags_valid (f ∷ fs) = both (leb f 2) (flags_valid fs)

-- no flag is 1
unfoldable pub none_missing : List ℕ → Bool
none_missing [] = true
none_missing (f ∷ fs) = both (not (eqb f 1)) (none_missing fs)
