-- A cube is coded by the parity of axis 3 on its data rows, then every plane. Axis 3 is right on the data cells of each plane, so it is
-- right on the data columns, whose lines of axis 2 are right in every plane, and so on every row.
use mathlib.Core.Path.{◌≡◌, refl, sym, ap, ◌∙◌}
use mathlib.Core.List.{List}
use Prim.Native.Nat.{ℕ, ◌+◌, ◌*◌, ◌-◌, ◌≤◌, ◌<◌}
use native.Mathlib.Omega.{arith}
use native.Mathlib.Decide.{ℕ_discrete}
use lib.ListN.{length, get_or}
use Rattle.span.proofs.Stretches.{stretch-end}
use Rattle.field.specs.Field.{Primitive}
use Rattle.line.specs.declared.Run.{Run}
use Rattle.line.specs.Line.{Codeword}
use Rattle.line.specs.Run.{Inside, Feeds, Encoded}
use Rattle.line.proofs.Codeword.{codeword-cong}
use Rattle.line.proofs.Runs.{Solved, encoded-placed, encoded-codewords}
use Rattle.shape.specs.declared.Shape.{Shape}
use Rattle.shape.specs.Shapes.{Valid, cells, capacity, cell, IsLine, along, axis1, axis2, axis3}
use Rattle.data.specs.Data.{layer, HoldsData, held_data}
use Rattle.data.proofs.HeldData.{held_data-holds}
use Rattle.cube.specs.Cube.{layer_line, CodeCube}
use Rattle.cube.specs.Inner.Encoder.{spot, plane_bytes, RowsEncoded, AcrossCompleted, PlanesCoded}
use Rattle.shape.proofs.Geometry.{axis1-cell, axis2-cell, axis3-cell}
use Rattle.cube.proofs.Bytes.{planes-in-cube, cell-byte, planes-fill}
use Rattle.cube.proofs.Completing.{across_run, across-inside, across-byte, across-off, across-codeword, across-kept, across-other}
use Rattle.cube.proofs.Parity.{crossing}

-- ---- the data rows

-- row b of each plane: its data cells in the data string, and in the cube
unfoldable pub rows_from : Shape → ℕ → Run
rows_from sh b = across_run (sh.l1 - 2) (sh.l2 - 2) (sh.l3 - 2) sh.w (sh.l1 - 2) b

unfoldable pub rows_to : Shape → ℕ → Run
rows_to sh b = across_run sh.l1 sh.l2 sh.l3 sh.w (sh.l1 - 2) b

pub rows-to-inside : (sh : Shape) (n : ℕ) → Valid sh → n < sh.l2 - 2 → Inside (rows_to sh n) (sh.w * cells sh)
unfolding rows_to
rows-to-inside sh n v less =
    across-inside sh.l1 sh.l2 sh.l3 sh.w (sh.l1 - 2) n _ (omega arith) v.l3_high (omega arith) (omega arith)
    (omega (arith, planes-fill sh))

pub rows-fed : (sh : Shape) (n : ℕ) → Valid sh → n < sh.l2 - 2 → Feeds (rows_from sh n) (rows_to sh n) (capacity sh)
unfolding rows_from rows_to across_run capacity
rows-fed sh n v less =
    record {
      inside =
          across-inside (sh.l1 - 2) (sh.l2 - 2) (sh.l3 - 2) sh.w (sh.l1 - 2) n _ (omega arith) (omega arith) (omega arith) less
          (omega (arith, planes-in-cube (sh.l1 - 2) (sh.l2 - 2) (sh.l3 - 2) sh.w));
      places = omega arith;
      lines = refl;
    }

pub rows-encoded-none : (r : ℕ) (sh : Shape) (ds xs : List ℕ) → RowsEncoded r sh 0 ds xs
rows-encoded-none r sh ds xs = record { lines = λ a b t l k h. absurd (omega arith); holds = λ a b c t l k m h. absurd (omega arith) }

-- one more row
module _ (r : ℕ) (sh : Shape) (n : ℕ) (ds before after : List ℕ) (less : n < sh.l2 - 2) (prim : Primitive r)
    (few : (rows_to sh n).len ≤ 255) (fed : Feeds (rows_from sh n) (rows_to sh n) (length ds))
    (encoded : Encoded r (rows_from sh n) (rows_to sh n) ds before after) where
  new_line : (a t : ℕ) → a < sh.l1 - 2 → t < sh.w
      → Codeword r (λ c. get_or after (c * plane_bytes sh + spot sh.l1 sh.w a n t) 0) sh.l3
  unfolding rows_to across_run
  new_line a t l h =
      codeword-cong r _ _ sh.l3 (λ c m. across-byte sh.l1 sh.l2 sh.l3 sh.w (sh.l1 - 2) n after a t c)
      (encoded-codewords fed encoded prim few (a * sh.w + t) (omega (arith, stretch-end a (sh.l1 - 2) sh.w l)))

  new-data : (a c t : ℕ) → a < sh.l1 - 2 → c < sh.l3 - 2 → t < sh.w
      → get_or ds (c * ((sh.l1 - 2) * (sh.l2 - 2) * sh.w) + spot (sh.l1 - 2) sh.w a n t) 0 ≡ get_or after (c * plane_bytes sh + spot sh.l1 sh.w a n t) 0
  unfolding rows_from rows_to across_run
  new-data a c t l m h =
      sym (across-byte (sh.l1 - 2) (sh.l2 - 2) (sh.l3 - 2) sh.w (sh.l1 - 2) n ds a t c)
      ∙ sym (encoded-placed fed encoded (a * sh.w + t) (omega (arith, stretch-end a (sh.l1 - 2) sh.w l)) c m)
      ∙ across-byte sh.l1 sh.l2 sh.l3 sh.w (sh.l1 - 2) n after a t c

  old-kept : (a b c t : ℕ) → a < sh.l1 - 2 → b < n → t < sh.w
      → get_or after (c * plane_bytes sh + spot sh.l1 sh.w a b t) 0 ≡ get_or before (c * plane_bytes sh + spot sh.l1 sh.w a b t) 0
  unfolding rows_to
  old-kept a b c t l k h =
      encoded.kept _
      (λ i m.
      across-off sh.l1 sh.l2 sh.l3 sh.w (sh.l1 - 2) n (omega arith) (omega arith) a b c t (omega arith) (omega arith) h (omega arith) i)

  pub rows-encoded-more : RowsEncoded r sh n ds before → RowsEncoded r sh (n + 1) ds after
  rows-encoded-more done =
      record {
        lines = λ a b t l k h. elim (ℕ_discrete b n) [
          | yes e ↦ rw e (new_line a t l h)
          | no ne ↦ let earlier : b < n = omega arith in
              codeword-cong r _ _ sh.l3 (λ c m. sym (old-kept a b c t l earlier h)) (done.lines a b t l earlier h)
        ];
        holds = λ a b c t l k m h. elim (ℕ_discrete b n) [
          | yes e ↦ rw e (new-data a c t l m h)
          | no ne ↦ let earlier : b < n = omega arith in
              done.holds a b c t l earlier m h ∙ sym (old-kept a b c t l earlier h)
        ];
      }

-- byte t of cell (a, b, c)
layer-byte : (sh : Shape) (xs : List ℕ) (a b c t : ℕ)
    → layer sh xs t (cell sh a b c) ≡ get_or xs (c * plane_bytes sh + spot sh.l1 sh.w a b t) 0
unfolding layer cell
layer-byte sh xs a b c t = ap (λ (p : ℕ). get_or xs p 0) (cell-byte sh.l1 sh.l2 sh.w a b c t)

-- ---- the data rows completed in place

pub across-completed-none : (r : ℕ) (sh : Shape) (xs : List ℕ) → AcrossCompleted r sh 0 xs xs
across-completed-none r sh xs = record { lines = λ a b t l k h. absurd (omega arith); kept = λ a b c t l k m h. refl }

-- one more row
pub across-completed-more : (r : ℕ) (sh : Shape) (n : ℕ) (start before after : List ℕ) → Primitive r → n < sh.l2 - 2 → 2 ≤ sh.l3
    → AcrossCompleted r sh n start before → Inside (rows_to sh n) (length before) → Solved r (rows_to sh n) (sh.l3 - 2) (sh.l3 - 1) before after
    → AcrossCompleted r sh (n + 1) start after
unfolding rows_to
across-completed-more r sh n start before after prim less low done inside solved =
    record {
      lines = λ a b t l k h. elim (ℕ_discrete b n) [
        | yes e ↦ rw e (across-codeword r sh.l1 sh.l2 sh.l3 sh.w (sh.l1 - 2) n before after inside solved prim low a t l h)
        | no ne ↦
            codeword-cong r _ _ sh.l3 (λ c m. sym (other a b c t l (omega arith) h ne)) (done.lines a b t l (omega arith) h)
      ];
      kept = λ a b c t l k m h. elim (ℕ_discrete b n) [
        | yes e ↦
            rw e
            (across-kept r sh.l1 sh.l2 sh.l3 sh.w (sh.l1 - 2) n before after inside solved a c t l m h ∙ done.kept a n c t l less m h)
        | no ne ↦ other a b c t l k h ne ∙ done.kept a b c t l k m h
      ];
    }
  where
    other : (a b c t : ℕ) → a < sh.l1 - 2 → b < sh.l2 - 2 → t < sh.w → (b ≡ n → ⊥)
        → get_or after (c * plane_bytes sh + spot sh.l1 sh.w a b t) 0 ≡ get_or before (c * plane_bytes sh + spot sh.l1 sh.w a b t) 0
    other a b c t l k h ne =
        across-other r sh.l1 sh.l2 sh.l3 sh.w (sh.l1 - 2) n before after inside solved (omega arith) (omega arith) a b c t (omega arith)
        (omega arith) h ne

-- all rows: the data string is the one that stood in the cube
pub across-encoded : (r : ℕ) (sh : Shape) (before after : List ℕ) → AcrossCompleted r sh (sh.l2 - 2) before after
    → RowsEncoded r sh (sh.l2 - 2) (held_data sh before) after
across-encoded r sh before after done =
    record {
      lines = done.lines;
      holds = λ a b c t l k m h.
          ap (λ (p : ℕ). get_or (held_data sh before) p 0) (sym (cell-byte (sh.l1 - 2) (sh.l2 - 2) sh.w a b c t))
          ∙ (held_data-holds sh before).bytes a b c t l k m h
          ∙ layer-byte sh before a b c t
          ∙ sym (done.kept a b c t l k m h);
    }

-- ---- the cube

module _ (r : ℕ) (prim : Primitive r) (sh : Shape) (v : Valid sh) (ds before after : List ℕ) (bytes : (p : ℕ) → get_or after p 0 < 256)
    (rows : RowsEncoded r sh (sh.l2 - 2) ds before) (planes : PlanesCoded r sh sh.l3 before after) where
  -- a line of axis 3 through data cells, through data columns, and through any cells
  across-data : (a b t : ℕ) → a < sh.l1 - 2 → b < sh.l2 - 2 → t < sh.w
      → Codeword r (λ c. get_or after (c * plane_bytes sh + spot sh.l1 sh.w a b t) 0) sh.l3
  across-data a b t l k h =
      codeword-cong r _ _ sh.l3 (λ c m. sym ((planes.coded c m).kept a b t l k h)) (rows.lines a b t l k h)

  across-columns : (a b t : ℕ) → a < sh.l1 - 2 → b < sh.l2 → t < sh.w
      → Codeword r (λ c. get_or after (c * plane_bytes sh + spot sh.l1 sh.w a b t) 0) sh.l3
  across-columns a b t l k h =
      crossing r sh.l3 sh.l2 (λ c q. get_or after (c * plane_bytes sh + spot sh.l1 sh.w a q t) 0) prim v.l2_high (λ c q. bytes _)
      (λ c m. (planes.coded c m).columns a t (omega arith) h) (λ q m. across-data a q t l m h) b k

  across : (a b t : ℕ) → a < sh.l1 → b < sh.l2 → t < sh.w
      → Codeword r (λ c. get_or after (c * plane_bytes sh + spot sh.l1 sh.w a b t) 0) sh.l3
  across a b t l k h =
      crossing r sh.l3 sh.l1 (λ c q. get_or after (c * plane_bytes sh + spot sh.l1 sh.w q b t) 0) prim v.l1_high (λ c q. bytes _)
      (λ c m. (planes.coded c m).rows b t k h) (λ q m. across-columns q b t m k h) a l

  line-codeword : (first stride len : ℕ) → IsLine sh first stride len → (t : ℕ) → t < sh.w → Codeword r (layer_line sh after t first stride) len
  unfolding layer_line
  line-codeword _ _ _ (along (axis1 b c l k)) t h =
      codeword-cong r _ _ sh.l1 (λ a m. sym (ap (layer sh after t) (axis1-cell sh b c a) ∙ layer-byte sh after a b c t))
      ((planes.coded c k).rows b t l h)
  line-codeword _ _ _ (along (axis2 a c l k)) t h =
      codeword-cong r _ _ sh.l2 (λ b m. sym (ap (layer sh after t) (axis2-cell sh a c b) ∙ layer-byte sh after a b c t))
      ((planes.coded c k).columns a t l h)
  line-codeword _ _ _ (along (axis3 a b l k)) t h =
      codeword-cong r _ _ sh.l3 (λ c m. sym (ap (layer sh after t) (axis3-cell sh a b c) ∙ layer-byte sh after a b c t))
      (across a b t l k h)

  pub code-cube : length after ≡ sh.w * cells sh → CodeCube r sh after
  code-cube size = record { size = size; bytes = bytes; lines = line-codeword }

  pub data-held : length ds ≡ capacity sh → HoldsData sh after ds
  data-held size =
      record {
        size = size;
        bytes = λ a b c t l k m h.
            ap (λ (p : ℕ). get_or ds p 0) (cell-byte (sh.l1 - 2) (sh.l2 - 2) sh.w a b c t)
            ∙ rows.holds a b c t l k m h
            ∙ sym ((planes.coded c (omega arith)).kept a b t l k h)
            ∙ sym (layer-byte sh after a b c t);
      }
