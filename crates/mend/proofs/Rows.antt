-- The pass by axis 1 from one cube into another, row by row: line m of axis 1 is a row, l1 cells of w bytes that lie together. A row is
-- corrected as soon as it is copied, and neither touches the rows before it.
use mathlib.Core.Path.{◌≡◌, sym, ap, ◌∙◌}
use mathlib.Core.List.{List}
use mathlib.Core.Logic.{inl}
use Prim.Native.Nat.{ℕ, ◌+◌, ◌*◌, ◌≤◌, ◌<◌}
use native.Mathlib.Nat.{zero-add, add_assoc, add-mul, mul_assoc, mul_comm, mul_left_comm, mul-suc, one-mul, mul-le-mul_left, mul-le-mul_right, le_refl}
use native.Mathlib.Decide.{ℕ_discrete}
use native.Mathlib.Omega.{arith}
use lib.ListN.{length, get_or}
use Rattle.span.proofs.Stretches.{stretch-end}
use Rattle.shape.specs.declared.Shape.{Shape}
use Rattle.shape.specs.Shapes.{Valid, cells, cell, AxisLine, axis1}
use Rattle.shape.proofs.Geometry.{low-lt}
use Rattle.data.specs.Data.{layer}
use Rattle.cube.specs.Cube.{layer_line}
use Rattle.span.specs.Span.{Copied}
use Rattle.mend.specs.Mend.{Pass}
use Rattle.mend.proofs.Correction.{corrected-cong}
use Rattle.line.specs.declared.Run.{Run}
use Rattle.line.specs.Line.{corrected}
use Rattle.line.specs.Run.{line_at, Inside, Off, Corrected}

-- the lines of row m, one for each layer
unfoldable pub row_run : ℕ → ℕ → ℕ → Run
row_run w l1 m = record { first = m * (l1 * w); stride = w; len = l1; width = w }

-- a row's place i ends inside the row
place_end : (w l1 i : ℕ) → i < l1 → w * i + w ≤ l1 * w
place_end w l1 i li = omega (arith, mul-suc w i, mul-le-mul_left w li, mul_comm w l1)

-- ---- rows of a valid shape

pub rows_few : (sh : Shape) → Valid sh → sh.l2 * sh.l3 ≤ 65025
rows_few sh v = omega (arith, v.l3_high, mul-le-mul_right sh.l3 v.l2_high)

pub row-end : (sh : Shape) (m : ℕ) → m < sh.l2 * sh.l3 → m * (sh.l1 * sh.w) + sh.l1 * sh.w ≤ sh.w * cells sh
unfolding cells
row-end sh m less = omega (arith, stretch-end m (sh.l2 * sh.l3) (sh.l1 * sh.w) less, whole)
  where
    whole : sh.l2 * sh.l3 * (sh.l1 * sh.w) ≡ sh.w * (sh.l1 * sh.l2 * sh.l3)
    whole = simp (mul_assoc, mul_comm, mul_left_comm)

pub row_inside : (sh : Shape) (m : ℕ) → Valid sh → m < sh.l2 * sh.l3 → Inside (row_run sh.w sh.l1 m) (sh.w * cells sh)
unfolding row_run
row_inside sh m v less =
    record {
      some_place = omega (arith, v.l1_low);
      few_places = v.l1_high;
      apart = le_refl _;
      fits = λ i li. omega (arith, row-end sh m less, place_end sh.w sh.l1 i li);
    }

-- a line of axis 1 is a row
row_first : (sh : Shape) (b c : ℕ) → cell sh 0 b c ≡ (b + sh.l2 * c) * sh.l1
unfolding cell
row_first sh b c = simp zero-add (mul_comm _ _)

row-layer : (sh : Shape) (xs : List ℕ) (m t i : ℕ) → layer_line sh xs t (m * sh.l1) 1 i ≡ line_at xs (row_run sh.w sh.l1 m) t i
unfolding layer_line layer line_at row_run
row-layer sh xs m t i =
    ap (λ (p : ℕ). get_or xs (p + t) 0)
    (omega (arith, add-mul (m * sh.l1) (1 * i) sh.w, mul_assoc m sh.l1 sh.w, one-mul i, mul_comm i sh.w))

-- ---- the rows below n corrected

pub record RowsThrough (r w l1 n : ℕ) (xs ys : List ℕ) : Type 0 where
  pub size : length ys ≡ length xs
  pub rows :
      (m : ℕ) → m < n → (t i : ℕ) → t < w → i < l1 →
      line_at ys (row_run w l1 m) t i ≡ corrected r l1 (line_at xs (row_run w l1 m) t) i

pub rows_none : (r w l1 : ℕ) (xs ys : List ℕ) → length ys ≡ length xs → RowsThrough r w l1 0 xs ys
rows_none r w l1 xs ys size = record { size = size; rows = λ m less. absurd (omega arith) }

pub rows_all : (r : ℕ) (sh : Shape) (n : ℕ) (xs ys : List ℕ) → sh.l2 * sh.l3 ≤ n → RowsThrough r sh.w sh.l1 n xs ys → Pass r sh 1 xs ys
unfolding layer_line
rows_all r sh n xs ys le h = record { size = h.size; lines = by }
  where
    by : (first stride len : ℕ) → AxisLine sh 1 first stride len → (t i : ℕ) → t < sh.w → i < len
        → layer sh ys t (first + stride * i) ≡ corrected r len (layer_line sh xs t first stride) i
    by _ _ _ (axis1 b c p q) t i lt li =
        let m : ℕ = b + sh.l2 * c in
        let less : m < n = omega (arith, low-lt b sh.l2 c sh.l3 p q) in
        rw (row_first sh b c)
        (row-layer sh ys m t i ∙ h.rows m less t i lt li ∙ corrected-cong r sh.l1 _ _ (λ j lj. sym (row-layer sh xs m t j)) i li)

module _ (r w l1 m : ℕ) (xs ys us zs : List ℕ) (h : RowsThrough r w l1 m xs ys)
    (copy : Copied xs (m * (l1 * w)) ys (m * (l1 * w)) (l1 * w) us) (run : Corrected r (row_run w l1 m) us zs) where
  -- the rows before row m are kept
  earlier-kept : (p : ℕ) → p < m * (l1 * w) → get_or zs p 0 ≡ get_or ys p 0
  unfolding row_run Off
  earlier-kept p less = run.kept p (λ i li. inl (omega arith)) ∙ copy.kept.below p less

  earlier : (k : ℕ) → k < m → (t i : ℕ) → t < w → i < l1 → line_at zs (row_run w l1 k) t i ≡ line_at ys (row_run w l1 k) t i
  unfolding line_at row_run
  earlier k less t i lt li = earlier-kept _ (omega (arith, stretch-end k m (l1 * w) less, place_end w l1 i li))

  fresh : (t i : ℕ) → t < w → i < l1 → line_at us (row_run w l1 m) t i ≡ line_at xs (row_run w l1 m) t i
  unfolding line_at row_run
  fresh t i lt li = let inside : w * i + t < l1 * w = omega (arith, place_end w l1 i li) in simp add_assoc (copy.copied (w * i + t) inside)

  pub rows_more : RowsThrough r w l1 (m + 1) xs zs
  unfolding row_run
  rows_more =
      record {
        size = run.size ∙ copy.kept.size ∙ h.size;
        rows = λ k less t i lt li.
            elim (ℕ_discrete k m) [
              | yes e ↦ rw e (run.lines t lt i li ∙ corrected-cong r l1 _ _ (λ j lj. fresh t j lt lj) i li)
              | no ne ↦ let before : k < m = omega arith in earlier k before t i lt li ∙ h.rows k before t i lt li
            ];
      }
