-- What a set of cells that meets every line of a cube in none or at least three has as soon as it has a cell: three cells on a line of axis 1,
-- on axis 2 for each of these, on axis 3 for each of those nine, so 27 or more; and one off the last two places of all three axes.
use mathlib.Core.Path.{◌≡◌, sym, ap, ◌∙◌}
use mathlib.Core.Bool.{Bool, true}
use mathlib.Core.Logic.{◌⊎◌, inl, inr, ⊎_elim}
use Prim.Native.Nat.{ℕ, zero, suc, ◌+◌, ◌-◌, ◌*◌, ◌/◌, ◌%◌, ◌≤◌, ◌<◌}
use native.Mathlib.Nat.{mod-lt, mod-add-div, mul_assoc, div-lt_iff_lt-mul, le_trans}
use native.Mathlib.Decide.{dec_lt}
use native.Mathlib.Omega.{arith}
use lib.Dec.{leb}
use borrow.Author.Tests.{leb-true, le-leb}
use Rattle.shape.specs.declared.Shape.{Shape}
use Rattle.shape.specs.Shapes.{cells, cell, IsLine, along, axis1, axis2, axis3}
use Rattle.shape.proofs.Geometry.{axis1-cell, axis2-cell, axis3-cell, line-cell-lt}
use Rattle.stopping.specs.Stopping.{number, on_line, Stopping}
use Rattle.stopping.proofs.Number.{not-true-false, number-cong, number-mono, number-none, number-pos, member, member-off, number-many}
use Rattle.stopping.proofs.Stopping.{Fits}

-- the lines of a cube are made of its cells
pub cube-fits : (sh : Shape) → Fits (cells sh) (IsLine sh)
cube-fits sh first stride len l i m = line-cell-lt sh first stride len i l m

-- ---- coordinates

split : (x y n : ℕ) → n < x * y → (i : ℕ) × (q : ℕ) × (i < x) × (q < y) × (n ≡ i + x * q)
split zero y n l = absurd (omega arith)
split (suc x) y n l =
    let pos : 0 < suc x = omega arith in
    let fits : n < y * suc x = omega arith in
    (n % suc x, n / suc x, mod-lt n pos, (div-lt_iff_lt-mul pos).1 fits, sym (mod-add-div n (suc x)))

coordinates : (sh : Shape) (n : ℕ) → n < cells sh
    → (a : ℕ) × (b : ℕ) × (c : ℕ) × (a < sh.l1) × (b < sh.l2) × (c < sh.l3) × (n ≡ cell sh a b c)
unfolding cells cell
coordinates sh n l =
    let (a, q, la, lq, e) = split sh.l1 (sh.l2 * sh.l3) n (rw (← (mul_assoc sh.l1 sh.l2 sh.l3)) l) in
    let (b, c, lb, lc, f) = split sh.l2 sh.l3 q lq in
    (a, b, c, la, lb, lc, e ∙ ap (λ (k : ℕ). a + sh.l1 * k) f)

-- whether row q of x places has a member of P
occupied : (ℕ → Bool) → ℕ → ℕ → Bool
occupied P x q = leb 1 (number (λ i. P (i + x * q)) x)

occupied-by : (P : ℕ → Bool) (x q i : ℕ) → i < x → P (i + x * q) ≡ true → occupied P x q ≡ true
unfolding occupied
occupied-by P x q i l e = le-leb 1 _ (number-pos (λ i. P (i + x * q)) x i l e)

occupant : (P : ℕ → Bool) (x q : ℕ) → occupied P x q ≡ true → (i : ℕ) × (i < x) × (P (i + x * q) ≡ true)
unfolding occupied
occupant P x q e = member (λ i. P (i + x * q)) x (leb-true 1 _ e)

-- ---- along the axes

module _ {sh : Shape} {M S : ℕ → Bool} (u : Stopping (cells sh) (IsLine sh) M S) where
  -- a line with a cell of S has three, its places counted by any formula
  three : (first stride len : ℕ) → IsLine sh first stride len → (at : ℕ → ℕ) → ((i : ℕ) → first + stride * i ≡ at i)
      → (i : ℕ) → i < len → S (at i) ≡ true → 3 ≤ number (λ i. S (at i)) len
  unfolding on_line
  three first stride len l at same i m e =
      rw (← (number-cong (λ i. S (first + stride * i)) (λ i. S (at i)) len (λ i m. ap S (same i))))
      (⊎_elim (λ (z : number (λ i. S (first + stride * i)) len ≡ 0).
      absurd (omega (arith, number-pos (λ i. S (first + stride * i)) len i m (ap S (same i) ∙ e))))
      (λ t. t) (u.meets first stride len l))

  module _ (a b c : ℕ) (la : a < sh.l1) (lb : b < sh.l2) (lc : c < sh.l3) (e : S (cell sh a b c) ≡ true) where
    three1 : 3 ≤ number (λ i. S (cell sh i b c)) sh.l1
    three1 = three _ _ _ (along (axis1 b c lb lc)) (λ i. cell sh i b c) (axis1-cell sh b c) a la e

    three2 : 3 ≤ number (λ i. S (cell sh a i c)) sh.l2
    three2 = three _ _ _ (along (axis2 a c la lc)) (λ i. cell sh a i c) (axis2-cell sh a c) b lb e

    three3 : 3 ≤ number (λ i. S (cell sh a b i)) sh.l3
    three3 = three _ _ _ (along (axis3 a b la lb)) (λ i. cell sh a b i) (axis3-cell sh a b) c lc e

  row-three : (q : ℕ) → q < sh.l2 * sh.l3 → occupied S sh.l1 q ≡ true → 3 ≤ number (λ i. S (i + sh.l1 * q)) sh.l1
  unfolding cell
  row-three q l e =
      let (b, c, lb, lc, f) = split sh.l2 sh.l3 q l in
      let (a, la, g) = occupant S sh.l1 q e in
      rw f (three1 a b c la lb lc (ap (λ (k : ℕ). S (a + sh.l1 * k)) (sym f) ∙ g))

  plane-three : (c : ℕ) → c < sh.l3 → occupied (occupied S sh.l1) sh.l2 c ≡ true
      → 3 ≤ number (λ i. occupied S sh.l1 (i + sh.l2 * c)) sh.l2
  unfolding cell
  plane-three c lc e =
      let (b, lb, f) = occupant (occupied S sh.l1) sh.l2 c e in
      let (a, la, g) = occupant S sh.l1 (b + sh.l2 * c) f in
      le_trans (three2 a b c la lb lc g) (number-mono _ _ sh.l2 (λ i l h. occupied-by S sh.l1 (i + sh.l2 * c) a la h))

  planes-three : (a b c : ℕ) → a < sh.l1 → b < sh.l2 → c < sh.l3 → S (cell sh a b c) ≡ true
      → 3 ≤ number (occupied (occupied S sh.l1) sh.l2) sh.l3
  unfolding cell
  planes-three a b c la lb lc e =
      le_trans (three3 a b c la lb lc e)
      (number-mono _ _ sh.l3 (λ i l h.
      occupied-by (occupied S sh.l1) sh.l2 i b lb (occupied-by S sh.l1 (b + sh.l2 * i) a la h)))

  -- 27 cells or more
  pub stopping-27 : (n : ℕ) → n < cells sh → S n ≡ true → 27 ≤ number S (cells sh)
  unfolding cells
  stopping-27 n l e =
      let (a, b, c, la, lb, lc, f) = coordinates sh n l in
      let rows : 9 ≤ number (occupied S sh.l1) (sh.l2 * sh.l3) =
      number-many (occupied S sh.l1) (occupied (occupied S sh.l1) sh.l2) sh.l2 sh.l3 3 3
      (planes-three a b c la lb lc (rw f at e)) plane-three in
      rw (mul_assoc sh.l1 sh.l2 sh.l3) (number-many S (occupied S sh.l1) sh.l1 (sh.l2 * sh.l3) 3 9 rows row-three)

  -- one of them a data cell
  pub stopping-data : (n : ℕ) → n < cells sh → S n ≡ true
      → (a : ℕ) × (b : ℕ) × (c : ℕ) × (a < sh.l1 - 2) × (b < sh.l2 - 2) × (c < sh.l3 - 2) × (S (cell sh a b c) ≡ true)
  stopping-data n l e =
      let (a, b, c, la, lb, lc, f) = coordinates sh n l in
      let (a', la', pa, qa, ea) = member-off _ sh.l1 (sh.l1 - 1) (sh.l1 - 2) (three1 a b c la lb lc (rw f at e)) in
      let (b', lb', pb, qb, eb) = member-off _ sh.l2 (sh.l2 - 1) (sh.l2 - 2) (three2 a' b c la' lb lc ea) in
      let (c', lc', pc, qc, ec) = member-off _ sh.l3 (sh.l3 - 1) (sh.l3 - 2) (three3 a' b' c la' lb' lc eb) in
      (a', b', c', omega arith, omega arith, omega arith, ec)

  -- so the number is 0 or 27 or more
  pub stopping-none-or-27 : (number S (cells sh) ≡ 0) ⊎ (27 ≤ number S (cells sh))
  stopping-none-or-27 =
      elim (dec_lt (number S (cells sh)) 27) [
        | yes few ↦ inl (number-none S (cells sh) (λ n l. not-true-false (S n) (λ e. omega (arith, stopping-27 n l e))))
        | no many ↦ inr (omega arith)
      ]
