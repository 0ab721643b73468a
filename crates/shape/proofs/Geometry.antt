-- The cells of a cube and the lines of its axes. An axis is a stride s and a length l: place i of line m is the cell (m / s * l + i) * s + m % s,
-- so that line and place on one side and the cell on the other determine each other, for the three axes at once.
use mathlib.Core.Path.{◌≡◌, sym, ap, ap₂, subst, ◌∙◌}
use mathlib.Core.Bool.{Bool, true, false, cond}
use Prim.Native.Nat.{ℕ, zero, suc, ◌+◌, ◌*◌, ◌/◌, ◌%◌, ◌≤◌, ◌<◌}
use native.Mathlib.Nat.{add-zero, zero-add, add_comm, add_left_comm, mul_comm, mul_assoc, mul_left_comm, mul-add, add-mul, mul-one, one-mul, mul-zero, zero-mul, mul-pos, mod-lt, mod-one, div-one, mod-eq_of_lt, div-eq_of_lt, div-add-mod', div-div-eq-div-mul, div-lt_iff_lt-mul, mod-add-div}
use native.Mathlib.Omega.{arith}
use lib.Arith.{digits_lt, digits_div, digits_mod}
use lib.Dec.{leb, ltb}
use borrow.Author.Tests.{lt-ltb, ltb-true}
use Rattle.shape.specs.declared.Shape.{Shape}
use Rattle.shape.specs.declared.Line.{Line}
use Rattle.answer.specs.Values.{Checked, passes, check, and_then}
use Rattle.answer.proofs.Values.{check-passed, then-passed, passes-injective}
use Rattle.shape.specs.Shapes.{Valid, within, cells, cell, AxisLine, axis1, axis2, axis3, IsLine, along, stride_of, length_of, lines_of, first_of, shape_checked, line_in, line_of}
use Rattle.shape.proofs.Valid.{shape-passed, valid-passes, within-parts, within-true, area-le}

-- ---- line and place of a cell, over stride and length

-- the first cell of line m
unfoldable pub first_at : ℕ → ℕ → ℕ → ℕ
first_at s l m = m / s * (s * l) + m % s

-- the number of the line of cell n, and the cell's place on it
unfoldable pub line_at : ℕ → ℕ → ℕ → ℕ
line_at s l n = n / (s * l) * s + n % s

unfoldable pub place_at : ℕ → ℕ → ℕ → ℕ
place_at s l n = n / s % l

regroup : (q s l r i : ℕ) → q * (s * l) + r + s * i ≡ (q * l + i) * s + r
regroup q s l r i = simp (add-mul, mul_comm, mul_left_comm, add_comm, add_left_comm)

-- place i of line m, in digits
pub cell-digits : (s l m i : ℕ) → first_at s l m + s * i ≡ (m / s * l + i) * s + m % s
unfolding first_at
cell-digits s l m i = regroup (m / s) s l (m % s) i

module _ (s l : ℕ) (some : 0 < s) where
  pub place_at-cell : (m i : ℕ) → i < l → place_at s l (first_at s l m + s * i) ≡ i
  unfolding place_at
  place_at-cell m i h =
      ap (λ (n : ℕ). n / s % l) (cell-digits s l m i) ∙ ap (λ (n : ℕ). n % l) (digits_div (m / s * l + i) (mod-lt m some))
      ∙ digits_mod (m / s) h

  pub line_at-cell : (m i : ℕ) → i < l → line_at s l (first_at s l m + s * i) ≡ m
  unfolding line_at
  line_at-cell m i h =
      ap (λ (n : ℕ). n / (s * l) * s + n % s) (cell-digits s l m i)
      ∙ ap₂ (λ (q r : ℕ). q * s + r)
      (sym (div-div-eq-div-mul _ s l) ∙ ap (λ (n : ℕ). n / l) (digits_div (m / s * l + i) (mod-lt m some)) ∙ digits_div (m / s) h)
      (digits_mod (m / s * l + i) (mod-lt m some))
      ∙ div-add-mod' m s

  pub cell-line_at : (n : ℕ) → first_at s l (line_at s l n) + s * place_at s l n ≡ n
  unfolding line_at place_at
  cell-line_at n =
      cell-digits s l (n / (s * l) * s + n % s) (n / s % l)
      ∙ ap₂ (λ (q r : ℕ). (q * l + n / s % l) * s + r) (digits_div _ (mod-lt n some) ∙ sym (div-div-eq-div-mul n s l)) (digits_mod _ (mod-lt n some))
      ∙ ap (λ (q : ℕ). q * s + n % s) (div-add-mod' (n / s) l)
      ∙ div-add-mod' n s

  pub place_at-lt : (n : ℕ) → 0 < l → place_at s l n < l
  unfolding place_at
  place_at-lt n h = mod-lt (n / s) h

  pub cell-lt : (o m i : ℕ) → m < o * s → i < l → first_at s l m + s * i < o * l * s
  cell-lt o m i h g = rw cell-digits (digits_lt (digits_lt ((div-lt_iff_lt-mul some).1 h) g) (mod-lt m some))

  pub line_at-lt : (o n : ℕ) → 0 < l → n < o * l * s → line_at s l n < o * s
  unfolding line_at
  line_at-lt o n h g =
      digits_lt ((div-lt_iff_lt-mul (mul-pos some h)).1 (rw (ap (λ (k : ℕ). o * k) (mul_comm s l), ← mul_assoc o l s) g)) (mod-lt n some)

-- ---- the three axes

-- the blocks of an axis, each of s lines: a block is l * s cells that lie together
unfoldable pub outer_of : Shape → ℕ → ℕ
outer_of sh axis = cond (leb axis 1) (sh.l2 * sh.l3) (cond (leb axis 2) sh.l3 1)

pub lines_of-outer : (sh : Shape) (axis : ℕ) → lines_of sh axis ≡ outer_of sh axis * stride_of sh axis
unfolding lines_of outer_of stride_of
lines_of-outer sh axis = by (leb axis 1) (leb axis 2)
  where
    by : (b c : Bool) → cond b (sh.l2 * sh.l3) (cond c (sh.l1 * sh.l3) (sh.l1 * sh.l2))
        ≡ cond b (sh.l2 * sh.l3) (cond c sh.l3 1) * cond b 1 (cond c sh.l1 (sh.l1 * sh.l2))
    by true c = sym (mul-one _)
    by false true = mul_comm _ _
    by false false = sym (one-mul _)

pub cells_outer : (sh : Shape) (axis : ℕ) → cells sh ≡ outer_of sh axis * length_of sh axis * stride_of sh axis
unfolding cells outer_of length_of stride_of
cells_outer sh axis = by (leb axis 1) (leb axis 2)
  where
    by : (b c : Bool) → sh.l1 * sh.l2 * sh.l3
        ≡ cond b (sh.l2 * sh.l3) (cond c sh.l3 1) * cond b sh.l1 (cond c sh.l2 sh.l3) * cond b 1 (cond c sh.l1 (sh.l1 * sh.l2))
    by true c = mul_assoc _ _ _ ∙ mul_comm _ _ ∙ sym (mul-one _)
    by false true = mul_comm _ _ ∙ ap (λ (k : ℕ). sh.l3 * k) (mul_comm _ _) ∙ sym (mul_assoc _ _ _)
    by false false = mul_comm _ _ ∙ ap (λ (k : ℕ). k * (sh.l1 * sh.l2)) (sym (one-mul _))

pub stride_of-pos : (sh : Shape) (axis : ℕ) → Valid sh → 0 < stride_of sh axis
unfolding stride_of
stride_of-pos sh axis v = by (leb axis 1) (leb axis 2)
  where
    by : (b c : Bool) → 0 < cond b 1 (cond c sh.l1 (sh.l1 * sh.l2))
    by true c = omega arith
    by false true = omega (arith, v.l1_low)
    by false false = mul-pos (omega (arith, v.l1_low)) (omega (arith, v.l2_low))

pub length_of-low : (sh : Shape) (axis : ℕ) → Valid sh → 3 ≤ length_of sh axis
unfolding length_of
length_of-low sh axis v = by (leb axis 1) (leb axis 2)
  where
    by : (b c : Bool) → 3 ≤ cond b sh.l1 (cond c sh.l2 sh.l3)
    by true c = v.l1_low
    by false true = v.l2_low
    by false false = v.l3_low

pub length_of-high : (sh : Shape) (axis : ℕ) → Valid sh → length_of sh axis ≤ 255
unfolding length_of
length_of-high sh axis v = by (leb axis 1) (leb axis 2)
  where
    by : (b c : Bool) → cond b sh.l1 (cond c sh.l2 sh.l3) ≤ 255
    by true c = v.l1_high
    by false true = v.l2_high
    by false false = v.l3_high

-- ---- each cell lies on exactly one line of each axis, at one place

-- cell n is place i of line m of the axis
pub record On (sh : Shape) (axis n m i : ℕ) : Type 0 where
  pub line_lt : m < lines_of sh axis
  pub place_lt : i < length_of sh axis
  pub here : n ≡ first_of sh axis m + stride_of sh axis * i

unfoldable pub line_on : Shape → ℕ → ℕ → ℕ
line_on sh axis n = line_at (stride_of sh axis) (length_of sh axis) n

unfoldable pub place_on : Shape → ℕ → ℕ → ℕ
place_on sh axis n = place_at (stride_of sh axis) (length_of sh axis) n

pub line-through : (sh : Shape) (axis n : ℕ) → Valid sh → n < cells sh → On sh axis n (line_on sh axis n) (place_on sh axis n)
unfolding first_of first_at line_on place_on
line-through sh axis n v h =
    record {
      line_lt = rw lines_of-outer (line_at-lt _ _ some (outer_of sh axis) n more (rw (cells_outer sh axis) at h));
      place_lt = place_at-lt _ _ some n more;
      here = sym (cell-line_at _ _ some n);
    }
  where
    some : 0 < stride_of sh axis
    some = stride_of-pos sh axis v

    more : 0 < length_of sh axis
    more = omega (arith, length_of-low sh axis v)

pub on_line_lem : (sh : Shape) (axis n m i : ℕ) → Valid sh → On sh axis n m i → m ≡ line_on sh axis n
unfolding first_of first_at line_on
on_line_lem sh axis n m i v o = sym (ap (line_on sh axis) o.here ∙ line_at-cell _ _ (stride_of-pos sh axis v) m i o.place_lt)

pub on-place : (sh : Shape) (axis n m i : ℕ) → Valid sh → On sh axis n m i → i ≡ place_on sh axis n
unfolding first_of first_at place_on
on-place sh axis n m i v o = sym (ap (place_on sh axis) o.here ∙ place_at-cell _ _ (stride_of-pos sh axis v) m i o.place_lt)

pub on-lt : (sh : Shape) (axis n m i : ℕ) → Valid sh → On sh axis n m i → n < cells sh
unfolding first_of first_at
on-lt sh axis n m i v o =
    rw (o.here, cells_outer sh axis) (cell-lt _ _ (stride_of-pos sh axis v) (outer_of sh axis) m i (rw lines_of-outer at o.line_lt) o.place_lt)

-- ---- cells by coordinates

-- two digits, the low one first
low_first : (r d q : ℕ) → r + d * q ≡ q * d + r
low_first r d q = add_comm r (d * q) ∙ ap (λ (k : ℕ). k + r) (mul_comm d q)

low-div : (r d q : ℕ) → r < d → (r + d * q) / d ≡ q
low-div r d q h = ap (λ (n : ℕ). n / d) (low_first r d q) ∙ digits_div q h

low-mod : (r d q : ℕ) → r < d → (r + d * q) % d ≡ r
low-mod r d q h = ap (λ (n : ℕ). n % d) (low_first r d q) ∙ digits_mod q h

pub low-lt : (r d q e : ℕ) → r < d → q < e → r + d * q < d * e
low-lt r d q e h g = rw (low_first r d q, mul_comm d e) (digits_lt g h)

pub cell-lt-cells : (sh : Shape) (a b c : ℕ) → a < sh.l1 → b < sh.l2 → c < sh.l3 → cell sh a b c < cells sh
unfolding cell cells
cell-lt-cells sh a b c p q r = rw (mul_assoc sh.l1 sh.l2 sh.l3) (low-lt a sh.l1 _ _ p (low-lt b sh.l2 c _ q r))

-- every cell has coordinates
pub cell-coordinates : (sh : Shape) (n : ℕ) → cell sh (n % sh.l1) (n / sh.l1 % sh.l2) (n / (sh.l1 * sh.l2)) ≡ n
unfolding cell
cell-coordinates sh n =
    ap (λ (k : ℕ). n % sh.l1 + sh.l1 * (n / sh.l1 % sh.l2 + sh.l2 * k)) (sym (div-div-eq-div-mul n sh.l1 sh.l2))
    ∙ ap (λ (k : ℕ). n % sh.l1 + sh.l1 * k) (mod-add-div (n / sh.l1) sh.l2)
    ∙ mod-add-div n sh.l1

pub third-lt : (sh : Shape) (n : ℕ) → 0 < sh.l1 * sh.l2 → n < cells sh → n / (sh.l1 * sh.l2) < sh.l3
unfolding cells
third-lt sh n p h = (div-lt_iff_lt-mul p).1 (rw (mul_comm sh.l3 (sh.l1 * sh.l2)) h)

-- and these only
pub first-coordinate : (sh : Shape) (a b c : ℕ) → a < sh.l1 → cell sh a b c % sh.l1 ≡ a
unfolding cell
first-coordinate sh a b c h = low-mod a sh.l1 (b + sh.l2 * c) h

pub second-coordinate : (sh : Shape) (a b c : ℕ) → a < sh.l1 → b < sh.l2 → cell sh a b c / sh.l1 % sh.l2 ≡ b
unfolding cell
second-coordinate sh a b c h g = ap (λ (k : ℕ). k % sh.l2) (low-div a sh.l1 (b + sh.l2 * c) h) ∙ low-mod b sh.l2 c g

pub third-coordinate : (sh : Shape) (a b c : ℕ) → a < sh.l1 → b < sh.l2 → cell sh a b c / (sh.l1 * sh.l2) ≡ c
unfolding cell
third-coordinate sh a b c h g =
    sym (div-div-eq-div-mul _ sh.l1 sh.l2) ∙ ap (λ (k : ℕ). k / sh.l2) (low-div a sh.l1 (b + sh.l2 * c) h) ∙ low-div b sh.l2 c g

-- ---- the cells of a line, by coordinates

pub axis1-cell : (sh : Shape) (b c i : ℕ) → cell sh 0 b c + 1 * i ≡ cell sh i b c
unfolding cell
axis1-cell sh b c i = omega arith

pub axis2-cell : (sh : Shape) (a c i : ℕ) → cell sh a 0 c + sh.l1 * i ≡ cell sh a i c
unfolding cell
axis2-cell sh a c i = simp (zero-add, mul-add) (omega arith)

pub axis3-cell : (sh : Shape) (a b i : ℕ) → cell sh a b 0 + sh.l1 * sh.l2 * i ≡ cell sh a b i
unfolding cell
axis3-cell sh a b i = simp (mul-zero, add-zero, mul-add, mul_assoc) (omega arith)

-- the cells of a line are cells of the cube
pub line-cell-lt : (sh : Shape) (f s n i : ℕ) → IsLine sh f s n → i < n → f + s * i < cells sh
line-cell-lt sh _ _ _ i (along (axis1 b c p q)) h = rw (axis1-cell sh b c i) (cell-lt-cells sh i b c h p q)
line-cell-lt sh _ _ _ i (along (axis2 a c p q)) h = rw (axis2-cell sh a c i) (cell-lt-cells sh a i c p h q)
line-cell-lt sh _ _ _ i (along (axis3 a b p q)) h = rw (axis3-cell sh a b i) (cell-lt-cells sh a b i p q h)

pub line-stride-pos : (sh : Shape) (f s n : ℕ) → Valid sh → IsLine sh f s n → 0 < s
line-stride-pos sh _ _ _ v (along (axis1 b c p q)) = omega arith
line-stride-pos sh _ _ _ v (along (axis2 a c p q)) = omega (arith, v.l1_low)
line-stride-pos sh _ _ _ v (along (axis3 a b p q)) = mul-pos (omega (arith, v.l1_low)) (omega (arith, v.l2_low))

pub line-stride-high : (sh : Shape) (f s n : ℕ) → Valid sh → IsLine sh f s n → s ≤ 65025
line-stride-high sh _ _ _ v (along (axis1 b c p q)) = omega arith
line-stride-high sh _ _ _ v (along (axis2 a c p q)) = omega (arith, v.l1_high)
line-stride-high sh _ _ _ v (along (axis3 a b p q)) = area-le sh.l1 sh.l2 v.l1_high v.l2_high

pub line-length-low : (sh : Shape) (f s n : ℕ) → Valid sh → IsLine sh f s n → 3 ≤ n
line-length-low sh _ _ _ v (along (axis1 b c p q)) = v.l1_low
line-length-low sh _ _ _ v (along (axis2 a c p q)) = v.l2_low
line-length-low sh _ _ _ v (along (axis3 a b p q)) = v.l3_low

pub line-length-high : (sh : Shape) (f s n : ℕ) → Valid sh → IsLine sh f s n → n ≤ 255
line-length-high sh _ _ _ v (along (axis1 b c p q)) = v.l1_high
line-length-high sh _ _ _ v (along (axis2 a c p q)) = v.l2_high
line-length-high sh _ _ _ v (along (axis3 a b p q)) = v.l3_high

-- ---- lines by number

-- the first cell of a line, by coordinates
axis1-first : (sh : Shape) (b c : ℕ) → first_at 1 sh.l1 (b + sh.l2 * c) ≡ cell sh 0 b c
unfolding first_at cell
axis1-first sh b c = simp (div-one, mod-one, one-mul, add-zero, zero-add) (mul_comm _ _)

axis2-first : (sh : Shape) (a c : ℕ) → a < sh.l1 → first_at sh.l1 sh.l2 (a + sh.l1 * c) ≡ cell sh a 0 c
unfolding first_at cell
axis2-first sh a c h =
    ap₂ (λ (q r : ℕ). q * (sh.l1 * sh.l2) + r) (low-div a sh.l1 c h) (low-mod a sh.l1 c h)
    ∙ simp (zero-add, mul_comm, mul_left_comm) (add_comm _ _)

axis3-first : (sh : Shape) (a b : ℕ) → a < sh.l1 → b < sh.l2 → first_at (sh.l1 * sh.l2) sh.l3 (a + sh.l1 * b) ≡ cell sh a b 0
unfolding first_at cell
axis3-first sh a b h g =
    let below : a + sh.l1 * b < sh.l1 * sh.l2 = low-lt a sh.l1 b sh.l2 h g in
    ap₂ (λ (q r : ℕ). q * (sh.l1 * sh.l2 * sh.l3) + r) (div-eq_of_lt below) (mod-eq_of_lt below) ∙ simp (zero-mul, zero-add, mul-zero, add-zero)

-- line m of each axis
module _ (sh : Shape) (m : ℕ) (v : Valid sh) where
  one : 0 < sh.l1
  one = omega (arith, v.l1_low)

  two : 0 < sh.l2
  two = omega (arith, v.l2_low)

  first-is : m < lines_of sh 1 → AxisLine sh 1 (first_of sh 1 m) (stride_of sh 1) (length_of sh 1)
  unfolding first_of first_at stride_of length_of lines_of
  first-is h =
      subst (λ (f : ℕ). AxisLine sh 1 f 1 sh.l1) (sym (axis1-first sh (m % sh.l2) (m / sh.l2)) ∙ ap (first_at 1 sh.l1) (mod-add-div m sh.l2))
      (axis1 (m % sh.l2) (m / sh.l2) (mod-lt m two) ((div-lt_iff_lt-mul two).1 (rw (mul_comm sh.l3 sh.l2) h)))

  second_is : m < lines_of sh 2 → AxisLine sh 2 (first_of sh 2 m) (stride_of sh 2) (length_of sh 2)
  unfolding first_of first_at stride_of length_of lines_of
  second_is h =
      subst (λ (f : ℕ). AxisLine sh 2 f sh.l1 sh.l2)
      (sym (axis2-first sh (m % sh.l1) (m / sh.l1) (mod-lt m one)) ∙ ap (first_at sh.l1 sh.l2) (mod-add-div m sh.l1))
      (axis2 (m % sh.l1) (m / sh.l1) (mod-lt m one) ((div-lt_iff_lt-mul one).1 (rw (mul_comm sh.l3 sh.l1) h)))

  third-is : m < lines_of sh 3 → AxisLine sh 3 (first_of sh 3 m) (stride_of sh 3) (length_of sh 3)
  unfolding first_of first_at stride_of length_of lines_of
  third-is h =
      let below : m / sh.l1 < sh.l2 = (div-lt_iff_lt-mul one).1 (rw (mul_comm sh.l2 sh.l1) h) in
      subst (λ (f : ℕ). AxisLine sh 3 f (sh.l1 * sh.l2) sh.l3)
      (sym (axis3-first sh (m % sh.l1) (m / sh.l1) (mod-lt m one) below) ∙ ap (first_at (sh.l1 * sh.l2) sh.l3) (mod-add-div m sh.l1))
      (axis3 (m % sh.l1) (m / sh.l1) (mod-lt m one) below)

abbrev line_with : ℕ → ℕ → ℕ → Checked Line
line_with s n f = passes (record { first = f; stride = s; len = n })

-- what holds of the three axes holds of every axis number from 1 to 3
pub axis-cases : (P : ℕ → Type 0) → P 1 → P 2 → P 3 → (axis : ℕ) → 1 ≤ axis → axis ≤ 3 → P axis
axis-cases P p q r zero low high = absurd (omega arith)
axis-cases P p q r (suc zero) low high = p
axis-cases P p q r (suc (suc zero)) low high = q
axis-cases P p q r (suc (suc (suc zero))) low high = r
axis-cases P p q r (suc (suc (suc (suc n)))) low high = absurd (omega arith)

-- line m of an axis is a line of it
pub line-is : (sh : Shape) (axis m : ℕ) → Valid sh → 1 ≤ axis → axis ≤ 3 → m < lines_of sh axis
    → AxisLine sh axis (first_of sh axis m) (stride_of sh axis) (length_of sh axis)
line-is sh axis m v =
    axis-cases (λ (n : ℕ). m < lines_of sh n → AxisLine sh n (first_of sh n m) (stride_of sh n) (length_of sh n)) (first-is sh m v) (second_is sh m v)
    (third-is sh m v) axis

-- what a call answers for line m of an axis of a valid shape
pub line-of : (sh : Shape) (axis m : ℕ) → Valid sh → 1 ≤ axis → axis ≤ 3 → m < lines_of sh axis
    → line_of sh axis m ≡ passes (record { first = first_of sh axis m; stride = stride_of sh axis; len = length_of sh axis })
unfolding line_of line_in check and_then
line-of sh axis m v p q h = rw (within-true 1 3 axis p q, valid-passes sh v, lt-ltb m (lines_of sh axis) h)

-- and nothing else
pub line-passed : (sh : Shape) (axis m : ℕ) (l : Line) → line_of sh axis m ≡ passes l
    → Valid sh × (1 ≤ axis) × (axis ≤ 3) × (m < lines_of sh axis)
    × (l ≡ record { first = first_of sh axis m; stride = stride_of sh axis; len = length_of sh axis })
unfolding line_of line_in
line-passed sh axis m l e =
    let (a, e₁) = check-passed (within 1 3 axis) 1 _ l e in
    let (z, fits, e₂) = then-passed (shape_checked sh) _ l e₁ in
    let (h, e₃) = check-passed (ltb m (lines_of sh axis)) 1 _ l e₂ in
    let (low, high) = within-parts 1 3 axis a in
    ((shape-passed sh z fits).0, low, high, ltb-true m (lines_of sh axis) h, sym (passes-injective _ _ e₃))

-- what a call finds is a line
pub axis-line-found : (sh : Shape) (axis m : ℕ) (l : Line) → line_of sh axis m ≡ passes l → AxisLine sh axis l.first l.stride l.len
axis-line-found sh axis m l e =
    let (v, low, high, h, same) = line-passed sh axis m l e in
    subst (λ (x : Line). AxisLine sh axis x.first x.stride x.len) (sym same) (line-is sh axis m v low high h)

pub line-found : (sh : Shape) (axis m : ℕ) (l : Line) → line_of sh axis m ≡ passes l → IsLine sh l.first l.stride l.len
line-found sh axis m l e = along (axis-line-found sh axis m l e)

-- a call finds every line
pub axis-line-every : (sh : Shape) (axis f s n : ℕ) → Valid sh → AxisLine sh axis f s n
    → (m : ℕ) × (1 ≤ axis) × (axis ≤ 3) × (m < lines_of sh axis) × (line_of sh axis m ≡ passes (record { first = f; stride = s; len = n }))
unfolding first_of first_at stride_of length_of lines_of
axis-line-every sh _ _ _ _ v (axis1 b c p q) =
    let h : b + sh.l2 * c < sh.l2 * sh.l3 = low-lt b _ c _ p q in
    (b + sh.l2 * c, omega arith, omega arith, h, line-of sh 1 _ v (omega arith) (omega arith) h ∙ ap (line_with 1 sh.l1) (axis1-first sh b c))
axis-line-every sh _ _ _ _ v (axis2 a c p q) =
    let h : a + sh.l1 * c < sh.l1 * sh.l3 = low-lt a _ c _ p q in (
      a + sh.l1 * c,
      omega arith,
      omega arith,
      h,
      line-of sh 2 _ v (omega arith) (omega arith) h ∙ ap (line_with sh.l1 sh.l2) (axis2-first sh a c p),
    )
axis-line-every sh _ _ _ _ v (axis3 a b p q) =
    let h : a + sh.l1 * b < sh.l1 * sh.l2 = low-lt a _ b _ p q in (
      a + sh.l1 * b,
      omega arith,
      omega arith,
      h,
      line-of sh 3 _ v (omega arith) (omega arith) h ∙ ap (line_with (sh.l1 * sh.l2) sh.l3) (axis3-first sh a b p q),
    )

pub line-every : (sh : Shape) (f s n : ℕ) → Valid sh → IsLine sh f s n
    → (axis : ℕ) × (m : ℕ) × (1 ≤ axis) × (axis ≤ 3) × (m < lines_of sh axis) × (line_of sh axis m ≡ passes (record { first = f; stride = s; len = n }))
line-every sh f s n v (along {axis} l) =
    let (m, low, high, h, e) = axis-line-every sh axis f s n v l in
    (axis, m, low, high, h, e)

-- the three axes have all lines
pub all-axes : {sh : Shape} (P : ℕ → ℕ → ℕ → Type 0) → Valid sh
    → ((axis : ℕ) → 1 ≤ axis → axis ≤ 3 → (f s n : ℕ) → AxisLine sh axis f s n → P f s n)
    → (f s n : ℕ) → IsLine sh f s n → P f s n
all-axes {sh} P v h f s n (along {axis} l) =
    let (m, low, high, b, found) = axis-line-every sh axis f s n v l in
    h axis low high f s n l
