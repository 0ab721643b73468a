-- Single-error correction of a run's lines: the search for the place, power by power; one line corrected; lines side by side.
use mathlib.Core.Path.{◌≡◌, refl, sym, ap, ◌∙◌}
use mathlib.Core.List.{List}
use mathlib.Core.Logic.{◌≢◌, ⊎_elim}
use Prim.Native.Nat.{ℕ, ◌+◌, ◌*◌, ◌≤◌, ◌<◌}
use native.Mathlib.Decide.{ℕ_discrete, dec_lt}
use native.Mathlib.Omega.{arith}
use lib.ListN.{length, get_or, set, length-set}
use lib.Seq.{get_or-set_same, get_or-set_other}
use Rattle.field.specs.Field.{add}
use Rattle.line.specs.declared.Run.{Run}
use Rattle.solver.specs.Solver.{ErrorAt, error_place}
use Rattle.line.specs.Line.{syndrome0, syndrome1, Codeword, corrected}
use Rattle.line.specs.Run.{Inside, Off, line_at, Corrected}
use Rattle.line.specs.Inner.Block.{part}
use Rattle.line.proofs.Error.{corrected-codeword-same, corrected-at, corrected-none, corrected-off}
use Rattle.line.proofs.Geometry.{stride-below}
use Rattle.line.proofs.Parts.{Changed, line-part}

-- ---- what becomes of each line, and where

unfoldable pub Below : ℕ → ℕ → Type 0
Below n i = i < n

unfoldable pub Mended : ℕ → ℕ → (ℕ → ℕ) → (ℕ → ℕ) → Type 0
Mended r n c d = (i : ℕ) → i < n → d i ≡ corrected r n c i

module _ {r : ℕ} {run : Run} {before after : List ℕ} where
  pub corrected-changed : Corrected r run before after → Changed Below (Mended r) run before after
  unfolding Below Mended
  corrected-changed s = record { size = s.size; kept = s.kept; lines = s.lines }

  pub changed-corrected : Changed Below (Mended r) run before after → Corrected r run before after
  unfolding Below Mended
  changed-corrected c = record { size = c.size; kept = c.kept; lines = c.lines }

-- codewords stay as they are
pub corrected-codewords :
    {r : ℕ} {run : Run} {s : List ℕ} → ((t : ℕ) → t < run.width → Codeword r (line_at s run t) run.len) →
    Corrected r run s s
corrected-codewords {r} {run} {s} w =
    record {
      size = refl;
      kept = λ p o. refl;
      lines = λ t h i l. sym (corrected-codeword-same r run.len (line_at s run t) (w t h) i);
    }

-- ---- one line

place-distinct : (first stride i j t : ℕ) → 0 < stride → i ≢ j → first + stride * i + t ≢ first + stride * j + t
place-distinct first stride i j t some ne e =
    elim (dec_lt i j) [
      | yes l ↦ omega (arith, stride-below stride i j l)
      | no l ↦ omega (arith, stride-below stride j i (omega arith))
    ]

line-single : (s : List ℕ) (run : Run) (t k : ℕ) → k < 1 → line_at s (part run t 1) k ≡ line_at s run t
line-single s run t k h = line-part s run t 1 k ∙ ap (line_at s run) (omega arith)

-- off the only line of a part is off its byte
off-single : (run : Run) (t i p : ℕ) → Off (part run t 1) i p → p ≢ run.first + run.stride * i + t
unfolding Off part
off-single run t i p o e =
    ⊎_elim (λ (x : p < run.first + t + run.stride * i). omega arith)
    (λ (x : run.first + t + run.stride * i + 1 ≤ p). omega arith) o

module _ (r : ℕ) (run : Run) (t : ℕ) (before : List ℕ) where
  -- a line that is what it was corrected to
  single : (after : List ℕ) → length after ≡ length before →
      ((p : ℕ) → ((i : ℕ) → i < run.len → Off (part run t 1) i p) → get_or after p 0 ≡ get_or before p 0) →
      ((i : ℕ) → i < run.len → line_at after run t i ≡ corrected r run.len (line_at before run t) i) →
      Corrected r (part run t 1) before after
  unfolding part
  single after size kept line =
      record {
        size = size;
        kept = kept;
        lines =
            λ k h i l. ap (λ (c : ℕ → ℕ). c i) (line-single after run t k h) ∙ line i l
            ∙ sym (ap (λ (c : ℕ → ℕ). corrected r run.len c i) (line-single before run t k h));
      }

  module _ (v0 v1 : ℕ) (e0 : v0 ≡ syndrome0 (line_at before run t) run.len)
      (e1 : v1 ≡ syndrome1 r (line_at before run t) run.len) where
    pub corrected-nowhere : ((j : ℕ) → ErrorAt r v0 v1 run.len j → ⊥) → Corrected r (part run t 1) before before
    corrected-nowhere never =
        single before refl (λ p o. refl)
        (λ i l. sym (corrected-none r run.len (line_at before run t) (λ j. rw (← e0, ← e1) (never j)) i l))

    pub corrected-found :
        (j byte : ℕ) → Inside run (length before) → t < run.width →
        ErrorAt r v0 v1 run.len j × (error_place r v0 v1 run.len ≡ j) →
        byte ≡ add (get_or before (run.first + run.stride * j + t) 0) v0 →
        Corrected r (part run t 1) before (set before (run.first + run.stride * j + t) byte)
    unfolding line_at
    corrected-found j byte h l (found, first) sum =
        single _ (length-set before at byte)
        (λ p o. get_or-set_other before at p byte 0 (off-single run t j p (o j found.below)))
        (λ i m. elim (ℕ_discrete i j) [
          | yes q ↦
              rw q (get_or-set_same before at byte 0 (omega (arith, h.fits j found.below)) ∙ sum ∙ ap (add (get_or before at 0)) e0
              ∙ sym (corrected-at r run.len (line_at before run t) j at-line at_first))
          | no q ↦
              get_or-set_other before at _ byte 0
              (place-distinct run.first run.stride i j t (omega (arith, h.apart)) q)
              ∙ sym (corrected-off r run.len (line_at before run t) i (λ e. q (sym e ∙ at_first)))
        ])
      where
        at : ℕ
        at = run.first + run.stride * j + t

        at-line :
            ErrorAt r (syndrome0 (line_at before run t) run.len) (syndrome1 r (line_at before run t) run.len) run.len j
        at-line = rw (← e0, ← e1) found

        at_first : error_place r (syndrome0 (line_at before run t) run.len) (syndrome1 r (line_at before run t) run.len) run.len ≡ j
        at_first = rw (← e0, ← e1) first
