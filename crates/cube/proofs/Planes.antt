-- A plane is coded by the parity of axis 2 on its data columns, then that of axis 1 on every row.
use mathlib.Core.Path.{◌≡◌, refl, sym, ◌∙◌}
use mathlib.Core.List.{List}
use Prim.Native.Nat.{ℕ, ◌+◌, ◌*◌, ◌-◌, ◌≤◌, ◌<◌}
use native.Mathlib.Nat.{suc-mul}
use native.Mathlib.Omega.{arith}
use native.Mathlib.Decide.{ℕ_discrete}
use lib.ListN.{length, get_or}
use Rattle.span.proofs.Stretches.{stretch-end}
use Rattle.field.specs.Field.{Primitive}
use Rattle.line.specs.Line.{Codeword}
use Rattle.line.specs.Run.{Inside}
use Rattle.line.proofs.Runs.{Solved}
use Rattle.line.proofs.Codeword.{codeword-cong}
use Rattle.shape.specs.declared.Shape.{Shape}
use Rattle.shape.specs.Shapes.{Valid}
use Rattle.cube.specs.Inner.Encoder.{spot, RowsCompleted, PlaneCode, plane_bytes, PlanesCoded}
use Rattle.cube.proofs.Bytes.{spot-plane}
use Rattle.cube.proofs.Lending.{lent, returned, lent_at, returned-at, returned-below, returned-above}
use Rattle.cube.proofs.Completing.{row_run, row-codeword, row-data, row_other, columns_run, column-codeword, column-data}
use Rattle.cube.proofs.Parity.{crossing}

-- ---- rows

pub rows-completed-none : (r m w : ℕ) (xs : List ℕ) → RowsCompleted r m w 0 xs xs
rows-completed-none r m w xs = record { lines = λ b t l h. absurd (omega arith); kept = λ a b t l h. refl }

-- one more row
pub rows-completed-more : (r m w n : ℕ) (start before after : List ℕ) → Primitive r → 2 ≤ m → RowsCompleted r m w n start before
    → Inside (row_run m w n) (length before) → Solved r (row_run m w n) (m - 2) (m - 1) before after → RowsCompleted r m w (n + 1) start after
rows-completed-more r m w n start before after prim low done inside solved =
    record {
      lines = λ b t k h. elim (ℕ_discrete b n) [
        | yes e ↦ rw e (row-codeword r m w n before after inside solved prim low t h)
        | no ne ↦
            codeword-cong r _ _ m (λ a l. sym (row_other r m w n before after inside solved low a b t l h ne)) (done.lines b t (omega arith) h)
      ];
      kept = λ a b t l h. elim (ℕ_discrete b n) [
        | yes e ↦ rw e (row-data r m w n before after inside solved a t l h ∙ done.kept a n t l h)
        | no ne ↦ row_other r m w n before after inside solved low a b t (omega arith) h ne ∙ done.kept a b t l h
      ];
    }

-- ---- a plane

module _ (r : ℕ) (prim : Primitive r) (sh : Shape) (v : Valid sh) (before middle after : List ℕ) (bytes : (p : ℕ) → get_or after p 0 < 256)
    (inside : Inside (columns_run sh.l1 sh.l2 sh.w) (length before))
    (solved : Solved r (columns_run sh.l1 sh.l2 sh.w) (sh.l2 - 2) (sh.l2 - 1) before middle)
    (completed : RowsCompleted r sh.l1 sh.w sh.l2 middle after) where
  data-column : (a t : ℕ) → a < sh.l1 - 2 → t < sh.w → Codeword r (λ b. get_or after (spot sh.l1 sh.w a b t) 0) sh.l2
  data-column a t l h =
      codeword-cong r _ _ sh.l2 (λ b k. sym (completed.kept a b t l h))
      (column-codeword r sh.l1 sh.l2 sh.w before middle inside solved prim (omega arith) a t l h)

  pub plane-code : PlaneCode r sh (λ p. get_or before p 0) (λ p. get_or after p 0)
  plane-code =
      record {
        rows = completed.lines;
        columns = λ a t l h.
            crossing r sh.l2 sh.l1 (λ b q. get_or after (spot sh.l1 sh.w q b t) 0) prim v.l1_high (λ b q. bytes _)
            (λ b k. completed.lines b t k h) (λ q k. data-column q t k h) a l;
        kept = λ a b t l k h.
            completed.kept a b t l h ∙ column-data r sh.l1 sh.l2 sh.w before middle inside solved a b t l k h;
      }

-- only the bytes of the plane count
plane-cong : (r : ℕ) (sh : Shape) (d p e q : ℕ → ℕ) → ((i : ℕ) → i < plane_bytes sh → d i ≡ e i)
    → ((i : ℕ) → i < plane_bytes sh → p i ≡ q i) → PlaneCode r sh d p → PlaneCode r sh e q
plane-cong r sh d p e q same-data same h =
    record {
      rows = λ b t l k. codeword-cong r _ _ sh.l1 (λ a m. same _ (spot-plane _ _ _ a b t m l k)) (h.rows b t l k);
      columns = λ a t l k. codeword-cong r _ _ sh.l2 (λ b m. same _ (spot-plane _ _ _ a b t l m k)) (h.columns a t l k);
      kept = λ a b t l k m.
          let inside = spot-plane sh.l1 sh.l2 sh.w a b t (omega arith) (omega arith) m in
          sym (same _ inside) ∙ h.kept a b t l k m ∙ same-data _ inside;
    }

-- ---- the planes of a cube

pub planes-coded-none : (r : ℕ) (sh : Shape) (xs : List ℕ) → PlanesCoded r sh 0 xs xs
planes-coded-none r sh xs = record { coded = λ c l. absurd (omega arith); rest = λ p l. refl }

-- one more plane, coded as a part of the cube that is returned
pub planes-coded-more : (r : ℕ) (sh : Shape) (n : ℕ) (start xs ys : List ℕ) → n * plane_bytes sh + plane_bytes sh ≤ length xs
    → length ys ≡ plane_bytes sh → PlanesCoded r sh n start xs
    → PlaneCode r sh (λ p. get_or (lent (n * plane_bytes sh) (plane_bytes sh) xs) p 0) (λ p. get_or ys p 0)
    → PlanesCoded r sh (n + 1) start (returned (n * plane_bytes sh) (plane_bytes sh) xs ys)
planes-coded-more r sh n start xs ys room size done h =
    let begins : n * plane_bytes sh ≤ length xs = omega arith in
    record {
      coded = λ c l. elim (ℕ_discrete c n) [
        | yes e ↦
            rw e
            (plane-cong r sh _ _ _ _ (λ i m. lent_at _ _ xs i m ∙ done.rest _ (omega arith))
            (λ i m. sym (returned-at (n * plane_bytes sh) (plane_bytes sh) xs ys begins i (omega arith))) h)
        | no ne ↦ let less : c < n = omega arith in
            plane-cong r sh _ _ _ _ (λ i m. refl)
            (λ i m. sym (returned-below (n * plane_bytes sh) (plane_bytes sh) xs ys begins _ (omega (arith, stretch-end c n (plane_bytes sh) less))))
            (done.coded c less)
      ];
      rest = λ p l.
          let past : n * plane_bytes sh + plane_bytes sh ≤ p = omega (arith, suc-mul n (plane_bytes sh)) in
          returned-above (n * plane_bytes sh) (plane_bytes sh) xs ys room size p past ∙ done.rest p (omega arith);
    }
