-- A cube with no cell missing: filling it is checking it.
use Rattle.std.specs.Prelude.{Ok, Err}
use mathlib.Core.Path.{◌≡◌, refl, sym, subst, ◌∙◌}
use mathlib.Core.Bool.{Bool, true, false, false≢true}
use mathlib.Core.List.{List}
use mathlib.Core.Logic.{inl, inr, ⊎_elim}
use Prim.Native.Nat.{ℕ, ◌+◌, ◌*◌, ◌<◌}
use lib.ListN.{length}
use Rattle.answer.specs.declared.Fault.TheVariants.{Contradiction}
use Rattle.answer.specs.declared.Refusal.TheVariants.{Plain}
use Rattle.answer.specs.Refusals.{fault_number}
use Rattle.answer.specs.Values.{Value, gives, refused, passes, refusal}
use Rattle.shape.specs.declared.Shape.{Shape}
use Rattle.shape.specs.Shapes.{cells, IsLine}
use Rattle.shape.specs.Flags.{missing, none_missing}
use Rattle.shape.proofs.Geometry.{line-cell-lt}
use Rattle.data.specs.Data.{layer}
use Rattle.cube.specs.Cube.{CodeCube}
use Rattle.stopping.specs.Stopping.{Largest}
use Rattle.stopping.proofs.Number.{not-true-false, number-none}
use Rattle.stopping.proofs.Stopping.{on_line-none}
use Rattle.fill.specs.Fill.{CellsLeft, left, fill_value, flags_checked, Filling, FillOutcome, fill_done, fill_contradiction}
use Rattle.fill.specs.Inner.Verify.{WholeChecked}
use Rattle.fill.proofs.Checks.{done-sized}
use Rattle.shape.proofs.Missing.{none-missing}
use Rattle.fill.proofs.Flagged.{flagged-refl}
use Rattle.fill.proofs.Unique.{layers-ext}

module _ (r : ℕ) (sh : Shape) (xs fs : List ℕ) (none : none_missing fs ≡ true) (done : flags_checked sh (length xs) fs ≡ passes tt) where
  known : (n : ℕ) → missing fs n ≡ false
  known = none-missing fs none

  -- a stopping set has no cell then
  pub empty : (K : ℕ → Bool) → Largest (cells sh) (IsLine sh) (missing fs) K → (n : ℕ) → n < cells sh → K n ≡ false
  empty K k n l = not-true-false (K n) (λ e. false≢true (sym (known n) ∙ k.stopping.inside n l e))

  pub code-filling : (K : ℕ → Bool) → Largest (cells sh) (IsLine sh) (missing fs) K → CodeCube r sh xs → Filling r sh xs (missing fs) K xs
  code-filling K k code =
      record {
        size = refl;
        bytes = code.bytes;
        known = λ n w l b e. refl;
        cleared = λ n w l b e. absurd (false≢true (sym (empty K k n l) ∙ e));
        lines = λ first stride len l _. code.lines first stride len l;
      }

  pub kept : (ys : List ℕ) → length ys ≡ length xs
      → ((n w : ℕ) → n < cells sh → w < sh.w → missing fs n ≡ false → layer sh ys w n ≡ layer sh xs w n) → ys ≡ xs
  kept ys size same =
      let z = done-sized sh xs fs done in
      layers-ext sh ys xs z.valid (size ∙ z.bytes) z.bytes (λ n w l b. same n w l b (known n))

  pub filled-code : (K : ℕ → Bool) → Largest (cells sh) (IsLine sh) (missing fs) K → Filling r sh xs (missing fs) K xs → CodeCube r sh xs
  filled-code K k f =
      record {
        size = (done-sized sh xs fs done).bytes;
        bytes = f.bytes;
        lines = λ first stride len l.
            f.lines first stride len l (on_line-none K first stride len (λ i m. empty K k _ (line-cell-lt sh first stride len i l m)));
      }

  -- the largest is the missing cells themselves
  largest : Largest (cells sh) (IsLine sh) (missing fs) (missing fs)
  largest =
      record {
        stopping = record {
          inside = λ n l e. e;
          meets = λ first stride len l. inl (on_line-none (missing fs) first stride len (λ i m. known (first + stride * i)));
        };
        every = λ S u. u.inside;
      }

  code-outcome : CodeCube r sh xs → FillOutcome r sh xs fs xs fs (gives (left 0))
  code-outcome code =
      subst (λ (n : ℕ). FillOutcome r sh xs fs xs fs (gives (left n))) (number-none (missing fs) (cells sh) (λ n l. known n))
      (fill_done done (flagged-refl fs) largest (code-filling (missing fs) largest code))

  other-outcome : (CodeCube r sh xs → ⊥) → FillOutcome r sh xs fs xs fs (refused 13)
  other-outcome wrong =
      fill_contradiction done (missing fs) largest
      (λ v f. wrong (filled-code (missing fs) largest (subst (Filling r sh xs (missing fs) (missing fs)) (kept v f.size f.known) f)))
      (record { size = refl; known = λ n w l b e. refl; missing = λ n w l b e. absurd (false≢true (sym (known n) ∙ e)) }) refl

  pub whole-outcome : (value : Value CellsLeft) → WholeChecked r sh xs value → FillOutcome r sh xs fs xs fs value
  unfolding WholeChecked
  whole-outcome value w =
      ⊎_elim (λ (c : CodeCube r sh xs × (value ≡ gives (left 0))). rw c.1 (code-outcome c.0))
      (λ (c : (CodeCube r sh xs → ⊥) × (value ≡ refused 13)). rw c.1 (other-outcome c.0)) w

-- ---- what the check answers

pub whole_code : (r : ℕ) (sh : Shape) (xs : List ℕ) → CodeCube r sh xs → WholeChecked r sh xs (fill_value (Ok 0))
unfolding WholeChecked fill_value
whole_code r sh xs code = inl (code, refl)

pub whole-other : (r : ℕ) (sh : Shape) (xs : List ℕ) → (CodeCube r sh xs → ⊥) → WholeChecked r sh xs (fill_value (Err (Plain Contradiction)))
unfolding WholeChecked fill_value refusal fault_number
whole-other r sh xs wrong = inr (wrong, refl)
