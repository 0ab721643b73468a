-- The two equations of a line (document 01, "Lines" and "Mending"): what its two syndromes say of two erasures, and of one error.
use Rattle.std.specs.Prelude.{◌≡◌, Bool, true, false, ◌≢◌, ℕ, zero, suc, ◌<◌, eqb, Option, Some, None}
use Rattle.field.specs.Field.{add, mul, pow, inverse}

unfoldable pub pick : Bool → ℕ → ℕ → ℕ
pick true a b = a
pick false a b = b

-- "two equations in two unknowns": the array [1, 1; α^j, α^k] times the bytes at j and k gives the two syndromes. Of its inverse
-- the second row gives the byte at k: these are that row's entries. One erasure (j = k) leaves one unknown, the first syndrome.
unfoldable pub row0 : ℕ → ℕ → ℕ → ℕ
row0 r j k = pick (eqb j k) 1 (mul r (inverse r (add (pow r j) (pow r k))) (pow r j))

unfoldable pub row1 : ℕ → ℕ → ℕ → ℕ
row1 r j k = pick (eqb j k) 0 (inverse r (add (pow r j) (pow r k)))

-- "With sums v0, v1 both nonzero, v1 = α^j × v0 and j < L": j is the place of a single error
pub record ErrorAt (r v0 v1 n j : ℕ) : Type 0 where
  pub first_nonzero : v0 ≢ 0
  pub second_nonzero : v1 ≢ 0
  pub below : j < n
  pub factor : v1 ≡ mul r (pow r j) v0

-- "v1 = α^j × v0 and j < L": the first such place j, and n where there is none. Where α is primitive it is the only one.
unfoldable pub error_place : ℕ → ℕ → ℕ → ℕ → ℕ
error_place r v0 v1 zero = zero
error_place r v0 v1 (suc n) =
    pick (eqb (error_place r v0 v1 n) n) (pick (eqb v1 (mul r (pow r n) v0)) n (suc n)) (error_place r v0 v1 n)

-- What `error_place` answers: the place of a single error, the first where there are more, or none.
unfoldable pub PlaceOutcome : ℕ → ℕ → ℕ → ℕ → Option ℕ → Type 0
PlaceOutcome r v0 v1 n (Some j) = ErrorAt r v0 v1 n j × (error_place r v0 v1 n ≡ j)
PlaceOutcome r v0 v1 n None = (j : ℕ) → ErrorAt r v0 v1 n j → ⊥
