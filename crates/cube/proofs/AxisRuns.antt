-- The lines of an axis in runs: a block is the stride × length cells of `stride` lines that lie side by side. Line number q · W + t of the
-- block's run of bytes is layer t of the block's line q.
use mathlib.Core.Path.{◌≡◌, refl, ap, ap₂, ◌∙◌}
use mathlib.Core.List.{List}
use Prim.Native.Nat.{ℕ, ◌+◌, ◌-◌, ◌*◌, ◌/◌, ◌%◌, ◌≤◌, ◌<◌}
use native.Mathlib.Nat.{mul_assoc, mul_comm, mul_left_comm, add-mul, add_assoc, add_comm, add_left_comm, add-zero, mul-suc, mul-one, one-mul, mul-le-mul_right, mul-le-mul_left, div-add-mod', mod-lt, add-mod_right, mul-mod_left, mul-div_cancel, add-div_right, div-lt_iff_lt-mul}
use native.Mathlib.Decide.{dec_lt}
use native.Mathlib.Omega.{arith}
use lib.Arith.{digits_div, digits_mod}
use lib.ListN.{get_or}
use Rattle.span.proofs.Stretches.{stretch-end, factor-below}
use Rattle.shape.specs.declared.Shape.{Shape}
use Rattle.shape.specs.declared.Line.{Line}
use Rattle.answer.specs.declared.Refusal.{Refusal}
use Rattle.answer.specs.Values.{passes, checked, refusal}
use Rattle.answer.proofs.Values.{refusal-gives}
use Rattle.shape.specs.Shapes.{Valid, cells, stride_of, length_of, lines_of, first_of, line_of}
use Rattle.data.specs.Data.{layer}
use Rattle.cube.specs.Cube.{layer_line}
use Rattle.shape.proofs.Axes.{lines-few}
use Rattle.shape.proofs.Geometry.{outer_of, lines_of-outer, cells_outer, stride_of-pos, length_of-low, length_of-high, line-of, line-passed}
use Rattle.line.specs.declared.Run.{Run}
use Rattle.line.specs.Run.{line_at, Inside}

-- ---- line m of an axis

pub record Located (sh : Shape) (axis m : ℕ) (l : Line) : Type 0 where
  pub valid : Valid sh
  pub low : 1 ≤ axis
  pub high : axis ≤ 3
  pub below : m < lines_of sh axis
  pub same : l ≡ record { first = first_of sh axis m; stride = stride_of sh axis; len = length_of sh axis }

-- a line that is found is that line of a valid shape
pub located : (sh : Shape) (axis m : ℕ) (l : Line) → line_of sh axis m ≡ passes l → Located sh axis m l
located sh axis m l e =
    let (v, low, high, less, same) = line-passed sh axis m l e in
    record { valid = v; low = low; high = high; below = less; same = same }

-- an axis ends where its lines are refused
pub lines-ended : (sh : Shape) (axis m : ℕ) (f : Refusal) → Valid sh → 1 ≤ axis → axis ≤ 3 → refusal {A = Line} f ≡ checked (line_of sh axis m)
    → lines_of sh axis ≤ m
unfolding checked
lines-ended sh axis m f v low high e =
    elim (dec_lt m (lines_of sh axis)) [
      | yes l ↦ absurd (refusal-gives f _ (rw (line-of sh axis m v low high l) at e))
      | no n ↦ omega arith
    ]

-- ---- numbers

pub layer_below : (q s t w : ℕ) → q < s → t < w → q * w + t < s * w
layer_below q s t w lq lt = omega (arith, stretch-end q s w lq)

-- the bytes of a block's run lie inside the block
pub run_end : (f s n w i : ℕ) → i < n → f * w + s * w * i + s * w ≤ (f + s * n) * w
run_end f s n w i l =
    omega (
      arith,
      mul-le-mul_right w places,
      add-mul f (s * i + s) w,
      add-mul (s * i) s w,
      mul_assoc s i w,
      mul_assoc s w i,
      ap (λ (k : ℕ). s * k) (mul_comm i w),
    )
  where
    places : f + (s * i + s) ≤ f + s * n
    places = omega (arith, mul-suc s i, mul-le-mul_left s l)

-- and a block lies inside the cube
block-end : (w s n outer b : ℕ) → b < outer → (b * (s * n) + s * n) * w ≤ w * (outer * n * s)
block-end w s n outer b l =
    omega (arith, mul-le-mul_right w (stretch-end b outer (s * n) l), mul_comm w (outer * n * s), ap (λ (k : ℕ). k * w) whole)
  where
    whole : outer * n * s ≡ outer * (s * n)
    whole = mul_assoc outer n s ∙ ap (λ (k : ℕ). outer * k) (mul_comm n s)

-- the cells of the lines before a block lie before its cells
cell-before : (s n b k i : ℕ) → 0 < s → k < b * s → i < n → k / s * (s * n) + k % s + s * i < b * (s * n)
cell-before s n b k i pos lk li =
    let block : k / s < b = (div-lt_iff_lt-mul pos).1 lk in
    omega (arith, stretch-end (k / s) b (s * n) block, mod-lt k pos, mul-suc s i, mul-le-mul_left s li)

-- ---- a block and its run

-- the run of the stride lines from line l on
unfoldable pub run_from : ℕ → Line → Run
run_from w l = record { first = l.first * w; stride = l.stride * w; len = l.len; width = l.stride * w }

-- the line q cells further
unfoldable pub line_beside : Line → ℕ → Line
line_beside l q = record { first = l.first + q; stride = l.stride; len = l.len }

-- layer t of line q of a block
pub line_at-run : (sh : Shape) (xs : List ℕ) (l : Line) (q t i : ℕ)
    → line_at xs (run_from sh.w l) (q * sh.w + t) i ≡ layer_line sh xs t (l.first + q) l.stride i
unfolding line_at layer_line layer run_from
line_at-run sh xs l q t i = ap (λ (p : ℕ). get_or xs p 0) (simp (add-mul, mul_assoc, mul_comm, mul_left_comm, add_assoc, add_comm, add_left_comm))

-- line m is the first of a block
pub record Begins (sh : Shape) (axis m : ℕ) (l : Line) : Type 0 where
  pub first_is : first_of sh axis m ≡ l.first
  pub next_first : first_of sh axis (m + l.stride) ≡ l.first + l.stride * l.len
  pub earlier : (k : ℕ) (k-line : Line) (i : ℕ) → k < m → line_of sh axis k ≡ passes k-line → i < k-line.len → k-line.first + k-line.stride * i < l.first
  pub stride_is : l.stride ≡ stride_of sh axis
  pub some_stride : 0 < l.stride
  pub next : m + l.stride ≤ lines_of sh axis
  pub next_aligned : (m + l.stride) % stride_of sh axis ≡ 0
  pub beside : (q : ℕ) → q < l.stride → line_of sh axis (m + q) ≡ passes (line_beside l q)
  pub inside : Inside (run_from sh.w l) (sh.w * cells sh)
  pub first_small : l.first * sh.w ≤ 268435456
  pub stride_small : l.stride * sh.w ≤ 268435456
  pub next_small : m + l.stride ≤ 268435456

pub begins-block : (sh : Shape) (axis b : ℕ) → Valid sh → 1 ≤ axis → axis ≤ 3 → b * stride_of sh axis < lines_of sh axis
    → Begins sh axis (b * stride_of sh axis)
    (record { first = b * (stride_of sh axis * length_of sh axis); stride = stride_of sh axis; len = length_of sh axis })
unfolding line_beside run_from first_of
begins-block sh axis b v low high less =
    let s = stride_of sh axis in
    let n = length_of sh axis in
    let some : 0 < n = omega (arith, length_of-low sh axis v) in
    let stride : 0 < s = stride_of-pos sh axis v in
    let lb : b < outer_of sh axis = factor-below b (outer_of sh axis) s (omega (arith, lines_of-outer sh axis)) in
    let next : b * s + s ≤ lines_of sh axis = omega (arith, lines_of-outer sh axis, stretch-end b (outer_of sh axis) s lb) in
    let fits : (i : ℕ) → i < n → b * (s * n) * sh.w + s * sh.w * i + s * sh.w ≤ sh.w * cells sh =
    λ i l. rw (cells_outer sh axis) (omega (arith, run_end (b * (s * n)) s n sh.w i l, block-end sh.w s n (outer_of sh axis) b lb)) in
    record {
      first_is = ap₂ (λ (d q : ℕ). d * (s * n) + q) (mul-div_cancel b stride) (mul-mod_left b s) ∙ add-zero _;
      next_first =
          ap₂ (λ (d q : ℕ). d * (s * n) + q) (add-div_right (b * s) stride ∙ ap (λ (d : ℕ). d + 1) (mul-div_cancel b stride))
          (add-mod_right (b * s) s ∙ mul-mod_left b s)
          ∙ omega (arith, add-mul b 1 (s * n), one-mul (s * n));
      earlier = λ k k-line i lk e li.
          let same = (located sh axis k k-line e).same in rw same (cell-before s n b k i stride lk (rw same at li));
      stride_is = refl;
      some_stride = stride;
      next = next;
      next_aligned = add-mod_right (b * s) s ∙ mul-mod_left b s;
      beside = λ q l.
          line-of sh axis (b * s + q) v low high (omega arith)
          ∙ ap₂ (λ (d m : ℕ). passes (record { first = d * (s * n) + m; stride = s; len = n })) (digits_div b l) (digits_mod b l);
      inside = record { some_place = some; few_places = length_of-high sh axis v; apart = omega arith; fits = fits };
      first_small = omega (arith, fits 0 some, v.volume);
      stride_small = omega (arith, fits 0 some, v.volume);
      next_small = omega (arith, next, lines-few sh axis v);
    }

-- a line whose number is a multiple of the stride is the first of a block
pub begins : (sh : Shape) (axis m : ℕ) (l : Line) → line_of sh axis m ≡ passes l → m % stride_of sh axis ≡ 0 → Begins sh axis m l
unfolding first_of
begins sh axis m l e aligned =
    let s = stride_of sh axis in
    let n = length_of sh axis in
    let at = located sh axis m l e in
    let number : m ≡ m / s * s = omega (arith, div-add-mod' m s) in
    let first : first_of sh axis m ≡ m / s * (s * n) = omega arith in
    let same : l ≡ record { first = m / s * (s * n); stride = s; len = n } =
    at.same ∙ ap (λ (f : ℕ). record { first = f; stride = s; len = n }) first in
    rw (number, same) (begins-block sh axis (m / s) at.valid at.low at.high (omega (arith, at.below)))

-- the lines from the first of a block on are those beside it
pub beside-is : (sh : Shape) (axis m : ℕ) (l : Line) → Begins sh axis m l → (k : ℕ) (k-line : Line) → m ≤ k → k < m + l.stride
    → line_of sh axis k ≡ passes k-line → k-line ≡ line_beside l (k - m)
beside-is sh axis m l b k k-line le less e =
    let number : m + (k - m) ≡ k = omega arith in
    let h : line_of sh axis k ≡ passes (line_beside l (k - m)) = rw number at (b.beside (k - m) (omega arith)) in
    cc
