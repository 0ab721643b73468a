-- The two by two array of the two equations, and its inverse by Cramer's rule.
use Rattle.std.specs.Prelude.{List, [], ◌∷◌, ℕ, get_or}
use Rattle.field.specs.Field.{add, mul, inverse}

-- the entry in row i and column j
unfoldable pub entry : List (List ℕ) → ℕ → ℕ → ℕ
entry m i j = get_or (get_or m i []) j 0

-- the inverse of the array [a, b; c, d], from the inverse of its determinant
unfoldable pub adjugate : ℕ → ℕ → ℕ → ℕ → ℕ → ℕ → List (List ℕ)
adjugate r e a b c d = (mul r e d ∷ mul r e b ∷ []) ∷ (mul r e c ∷ mul r e a ∷ []) ∷ []

unfoldable pub inverted : ℕ → ℕ → ℕ → ℕ → ℕ → List (List ℕ)
inverted r a b c d = adjugate r (inverse r (add (mul r a d) (mul r b c))) a b c d
