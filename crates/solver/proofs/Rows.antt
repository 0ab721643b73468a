-- The second row of the inverted array [1, 1; α^j, α^k].
use mathlib.Core.Path.{◌≡◌, ap₂, ◌∙◌}
use mathlib.Core.List.{List, [], ◌∷◌}
use mathlib.Core.Logic.{◌≢◌}
use Prim.Native.Nat.{ℕ, ◌<◌}
use borrow.Author.Tests.{eq-eqb, ne_eqb}
use Rattle.field.specs.Field.{add, mul, pow, inverse}
use Rattle.field.proofs.Addition.{add_comm}
use Rattle.field.proofs.Multiplication.{mul-one-l, mul-one-r}
use Rattle.field.proofs.Power.{pow-lt, inverse-lt}
use Rattle.solver.specs.Solver.{row0, row1, pick}

pub rows_same : (r j k : ℕ) → j ≡ k → ◌≡◌ {A = List ℕ} (1 ∷ 0 ∷ []) (row0 r j k ∷ row1 r j k ∷ [])
unfolding row0 row1 pick
rows_same r j k e = rw (eq-eqb j k e)

module _ (r : ℕ) (fits : r < 256) (j k : ℕ) where
  determinant : add (mul r 1 (pow r k)) (mul r 1 (pow r j)) ≡ add (pow r j) (pow r k)
  determinant =
      ap₂ add (mul-one-l r (pow r k) (pow-lt r k fits)) (mul-one-l r (pow r j) (pow-lt r j fits))
      ∙ add_comm (pow r k) (pow r j)

  pub row0-other :
      j ≢ k →
      mul r (inverse r (add (mul r 1 (pow r k)) (mul r 1 (pow r j)))) (pow r j) ≡ row0 r j k
  unfolding row0 pick
  row0-other ne = rw (ne_eqb j k ne, determinant)

  pub row1-other :
      j ≢ k → mul r (inverse r (add (mul r 1 (pow r k)) (mul r 1 (pow r j)))) 1 ≡ row1 r j k
  unfolding row1 pick
  row1-other ne = rw (ne_eqb j k ne, determinant) (mul-one-r r _ (inverse-lt r _ fits))
