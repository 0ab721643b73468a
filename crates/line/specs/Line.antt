-- Lines (document 01, "Lines"): a line of length n is a function from places to bytes, of which the places below n count.
use Rattle.std.specs.Prelude.{◌≡◌, ℕ, zero, suc, ◌-◌, eqb}
use Rattle.field.specs.Field.{add, mul, pow}
use Rattle.solver.specs.Solver.{pick, row0, row1, error_place}

-- "Its first sum adds all c(i)": the first syndrome
unfoldable pub syndrome0 : (ℕ → ℕ) → ℕ → ℕ
syndrome0 c zero = 0
syndrome0 c (suc n) = add (c n) (syndrome0 c n)

-- "its second adds α^i times c(i)": the second syndrome
unfoldable pub syndrome1 : ℕ → (ℕ → ℕ) → ℕ → ℕ
syndrome1 r c zero = 0
syndrome1 r c (suc n) = add (mul r (pow r n) (c n)) (syndrome1 r c n)

-- "It is right when both are 00h": a right line is a codeword.
pub record Codeword (r : ℕ) (c : ℕ → ℕ) (n : ℕ) : Type 0 where
  pub first : syndrome0 c n ≡ 0
  pub second : syndrome1 r c n ≡ 0

-- the line with both erasures (document 01: holes) read as 00h
unfoldable pub erased : ℕ → ℕ → (ℕ → ℕ) → ℕ → ℕ
erased j k c i = pick (eqb i k) 0 (pick (eqb i j) 0 (c i))

-- the byte at the erasure k, from the syndromes of the erased line
unfoldable pub solved : ℕ → ℕ → ℕ → ℕ → ℕ → ℕ
solved r j k s0 s1 = add (mul r s0 (row0 r j k)) (mul r s1 (row1 r j k))

-- the line of length n with the erasures j and k filled in
unfoldable pub completed : ℕ → ℕ → ℕ → ℕ → (ℕ → ℕ) → ℕ → ℕ
completed r n j k c i =
    pick (eqb i k) (solved r j k (syndrome0 (erased j k c) n) (syndrome1 r (erased j k c) n))
    (pick (eqb i j)
    (add (syndrome0 (erased j k c) n)
    (solved r j k (syndrome0 (erased j k c) n) (syndrome1 r (erased j k c) n)))
    (c i))

-- "Places L-2 and L-1 are parity": the line of length n with its parity filled in from its other places, whatever stood there
unfoldable pub with_parity : ℕ → ℕ → (ℕ → ℕ) → ℕ → ℕ
with_parity r n c = completed r n (n - 2) (n - 1) c

-- "v0 is added to c(j); otherwise the line keeps its bytes": the line of length n after single-error correction (document 01: mended)
unfoldable pub corrected : ℕ → ℕ → (ℕ → ℕ) → ℕ → ℕ
corrected r n c i =
    pick (eqb (syndrome0 c n) 0) (c i)
    (pick (eqb (syndrome1 r c n) 0) (c i)
    (pick (eqb i (error_place r (syndrome0 c n) (syndrome1 r c n) n)) (add (c i) (syndrome0 c n)) (c i)))
