-- Ranks of data cells: how many data cells stand before a cell. Data cells come in blocks, rows of a plane and planes of the cube, of which the
-- first places are members or none is; so the rank of a data cell is a formula of its coordinates.
use mathlib.Core.Path.{◌≡◌, refl, sym, ap, ap₂, ◌∙◌}
use mathlib.Core.Bool.{Bool, true, false, cond}
use mathlib.Core.Logic.{⊎_elim}
use Prim.Native.Nat.{ℕ, zero, suc, ◌+◌, ◌-◌, ◌*◌, ◌/◌, ◌%◌, ◌≤◌, ◌<◌}
use native.Mathlib.Nat.{add_comm, mul_comm, mul_assoc, mul-add, mul-zero, div-div-eq-div-mul}
use native.Mathlib.Decide.{dec_le}
use native.Mathlib.Omega.{arith}
use lib.Arith.{digits_div, digits_mod}
use lib.Dec.{leb, ltb}
use borrow.Author.Tests.{lt-ltb, le-ltb, le-leb, lt-leb}
use Rattle.shape.specs.declared.Shape.{Shape}
use Rattle.shape.specs.Shapes.{both, cells, cell, data_cell, data_cells}
use Rattle.stopping.specs.Stopping.{number}
use Rattle.stopping.proofs.Number.{true-or-false, number_in, number-out, number-nil, number-all, number-none, number-rest, number_append}

-- ---- blocks of x places, of which the first k are members where Q has the block, and none where it has not

module _ (x k : ℕ) (short : k ≤ x) (P Q : ℕ → Bool) (block : (q i : ℕ) → i < x → P (i + x * q) ≡ both (ltb i k) (Q q)) where
  at : (q i : ℕ) → i < x → P (x * q + i) ≡ both (ltb i k) (Q q)
  at q i l = ap P (add_comm (x * q) i) ∙ block q i l

  first-places : (q i : ℕ) → i ≤ k → Q q ≡ true → number (λ j. P (x * q + j)) i ≡ i
  unfolding both
  first-places q i h e = number-all _ i (λ j l. at q j (omega arith) ∙ rw (lt-ltb j k (omega arith), e))

  block-number : (q : ℕ) → number (λ j. P (x * q + j)) x ≡ k * cond (Q q) 1 0
  unfolding both
  block-number q =
      ⊎_elim
      (λ e.
      let rest : number (λ j. P (x * q + j)) x ≡ number (λ j. P (x * q + j)) k =
      number-rest _ k x short (λ j l m. at q j m ∙ rw (le-ltb j k l)) in
      rw e (omega (arith, rest, first-places q k (omega arith) e)))
      (λ e. rw e (number-none _ x (λ j l. at q j l ∙ rw e (out (ltb j k))) ∙ omega arith)) (true-or-false (Q q))
    where
      out : (b : Bool) → cond b false false ≡ false
      out true = refl
      out false = refl

  pub number-block : (q : ℕ) → number P (x * q) ≡ k * number Q q
  unfolding number
  number-block zero = ap (number P) (mul-zero x) ∙ number-nil P ∙ omega arith
  number-block (suc q) =
      let e : x * suc q ≡ x * q + x = omega arith in
      ap (number P) e ∙ number_append P (x * q) x ∙ ap₂ ◌+◌ (number-block q) (block-number q) ∙ sym (mul-add k (number Q q) (cond (Q q) 1 0))

  pub rank-block : (q i : ℕ) → i ≤ k → Q q ≡ true → number P (i + x * q) ≡ i + k * number Q q
  rank-block q i h e =
      ap (number P) (add_comm i (x * q)) ∙ number_append P (x * q) i ∙ ap₂ ◌+◌ (number-block q) (first-places q i h e)
      ∙ add_comm (k * number Q q) i

-- ---- the data cells of a cube

row_has : Shape → ℕ → Bool
row_has sh q = both (ltb (q % sh.l2) (sh.l2 - 2)) (ltb (q / sh.l2) (sh.l3 - 2))

low_digit : (x q i : ℕ) → i < x → (i + x * q) % x ≡ i
low_digit x q i l = ap (λ (n : ℕ). n % x) (add_comm i (x * q) ∙ ap (λ (n : ℕ). n + i) (mul_comm x q)) ∙ digits_mod q l

high_digit : (x q i : ℕ) → i < x → (i + x * q) / x ≡ q
high_digit x q i l = ap (λ (n : ℕ). n / x) (add_comm i (x * q) ∙ ap (λ (n : ℕ). n + i) (mul_comm x q)) ∙ digits_div q l

module _ (sh : Shape) where
  row_block : (q i : ℕ) → i < sh.l1 → data_cell sh (i + sh.l1 * q) ≡ both (ltb i (sh.l1 - 2)) (row_has sh q)
  unfolding data_cell row_has
  row_block q i l =
      rw (
        low_digit sh.l1 q i l,
        ← div-div-eq-div-mul (i + sh.l1 * q) sh.l1 sh.l2,
        high_digit sh.l1 q i l,
      )

  plane-block : (c b : ℕ) → b < sh.l2 → row_has sh (b + sh.l2 * c) ≡ both (ltb b (sh.l2 - 2)) (ltb c (sh.l3 - 2))
  unfolding row_has
  plane-block c b l = rw (low_digit sh.l2 c b l, high_digit sh.l2 c b l)

  -- which cells are data cells, by coordinates
  pub data-cell : (a b c : ℕ) → a < sh.l1 → b < sh.l2
      → data_cell sh (cell sh a b c) ≡ both (ltb a (sh.l1 - 2)) (both (ltb b (sh.l2 - 2)) (ltb c (sh.l3 - 2)))
  unfolding cell
  data-cell a b c l m = row_block (b + sh.l2 * c) a l ∙ ap (both (ltb a (sh.l1 - 2))) (plane-block c b m)

  planes-number : (c : ℕ) → c ≤ sh.l3 - 2 → number (λ i. ltb i (sh.l3 - 2)) c ≡ c
  planes-number c h = number-all _ c (λ i l. lt-ltb i (sh.l3 - 2) (omega arith))

  -- "data cells …, counted from 0": the number of data cell (a,b,c)
  pub data-rank : (a b c : ℕ) → a < sh.l1 - 2 → b < sh.l2 - 2 → c < sh.l3 - 2
      → number (data_cell sh) (cell sh a b c) ≡ a + (sh.l1 - 2) * (b + (sh.l2 - 2) * c)
  unfolding cell both
  data-rank a b c l m n =
      let row : row_has sh (b + sh.l2 * c) ≡ true =
      plane-block c b (omega arith) ∙ rw (lt-ltb b (sh.l2 - 2) m, lt-ltb c (sh.l3 - 2) n) in
      rank-block sh.l1 (sh.l1 - 2) (omega arith) (data_cell sh) (row_has sh) row_block (b + sh.l2 * c) a (omega arith) row
      ∙ ap (λ (k : ℕ). a + (sh.l1 - 2) * k)
      (rank-block sh.l2 (sh.l2 - 2) (omega arith) (row_has sh) (λ i. ltb i (sh.l3 - 2)) plane-block c b (omega arith)
      (lt-ltb c (sh.l3 - 2) n)
      ∙ ap (λ (k : ℕ). b + (sh.l2 - 2) * k) (planes-number c (omega arith)))

  pub data-number : number (data_cell sh) (cells sh) ≡ data_cells sh
  unfolding cells data_cells
  data-number =
      let planes : number (λ i. ltb i (sh.l3 - 2)) sh.l3 ≡ sh.l3 - 2 =
      number-rest _ (sh.l3 - 2) sh.l3 (omega arith) (λ i l m. le-ltb i (sh.l3 - 2) l) ∙ planes-number (sh.l3 - 2) (omega arith) in
      ap (number (data_cell sh)) (mul_assoc sh.l1 sh.l2 sh.l3)
      ∙ number-block sh.l1 (sh.l1 - 2) (omega arith) (data_cell sh) (row_has sh) row_block (sh.l2 * sh.l3)
      ∙ ap (λ (k : ℕ). (sh.l1 - 2) * k)
      (number-block sh.l2 (sh.l2 - 2) (omega arith) (row_has sh) (λ i. ltb i (sh.l3 - 2)) plane-block sh.l3
      ∙ ap (λ (k : ℕ). (sh.l2 - 2) * k) planes)
      ∙ sym (mul_assoc (sh.l1 - 2) (sh.l2 - 2) (sh.l3 - 2))

-- ---- the members from the u-th on

pub number-later : (P : ℕ → Bool) (u n : ℕ) → number (λ m. both (P m) (leb u (number P m))) n ≡ number P n - u
unfolding both
number-later P u zero = omega (arith, number-nil P, number-nil (λ m. cond (P m) (leb u (number P m)) false))
number-later P u (suc n) =
    let L : ℕ → Bool = λ m. cond (P m) (leb u (number P m)) false in
    let before : number L n ≡ number P n - u = number-later P u n in
    ⊎_elim
    (λ e.
    elim (dec_le u (number P n)) [
      | yes l ↦ omega (arith, number_in P n e, number_in L n (rw (e, le-leb u (number P n) l)))
      | no l ↦ omega (arith, number_in P n e, number-out L n (rw (e, lt-leb u (number P n) (omega arith))))
    ])
    (λ e. omega (arith, number-out P n e, number-out L n (rw e))) (true-or-false (P n))
