-- Runs: where lines are solved by the row of the inverted array, each is completed, and where they are encoded, each is a codeword.
use mathlib.Core.Path.{◌≡◌, sym, ap, ◌∙◌}
use mathlib.Core.List.{List}
use mathlib.Core.Logic.{◌≢◌}
use Prim.Native.Nat.{ℕ, ◌+◌, ◌*◌, ◌≤◌, ◌<◌}
use native.Mathlib.Decide.{ℕ_discrete}
use native.Mathlib.Omega.{arith}
use lib.ListN.{length, get_or}
use Rattle.field.specs.Field.{add, Primitive}
use Rattle.line.specs.declared.Run.{Run}
use Rattle.line.specs.Line.{Codeword, syndrome0, syndrome1, erased, completed, solved, with_parity}
use Rattle.line.specs.Run.{line_at, Inside, Off, ErasuresWritten, erasures_at, Feeds, Encoded}
use Rattle.line.proofs.Codeword.{codeword-cong}
use Rattle.line.proofs.Geometry.{off-of-ne, off-place}
use Rattle.line.proofs.Erasure.{completed-later, completed-earlier, completed-off, completed-codeword, completed-forced, parity-off, parity-right}

-- ---- lines solved

-- `after` is `before` with the erasures j ≤ k of each line filled in.
pub record Solved (r : ℕ) (run : Run) (j k : ℕ) (before after : List ℕ) : Type 0 where
  pub size : length after ≡ length before
  pub kept : (p : ℕ) → Off run j p → Off run k p → get_or after p 0 ≡ get_or before p 0
  pub later :
      (t : ℕ) → t < run.width →
      line_at after run t k ≡
      solved r j k (syndrome0 (erased j k (line_at before run t)) run.len)
      (syndrome1 r (erased j k (line_at before run t)) run.len)
  pub earlier :
      j < k → (t : ℕ) → t < run.width →
      line_at after run t j ≡
      add (syndrome0 (erased j k (line_at before run t)) run.len) (line_at after run t k)

-- what the row of the inverted array writes
pub written-solved :
    {r : ℕ} {run : Run} {j k : ℕ} {before after : List ℕ} → ErasuresWritten r run (erasures_at r j k) before after →
    Solved r run j k before after
unfolding erasures_at solved
written-solved w = record { size = w.size; kept = w.kept; later = w.later; earlier = w.earlier }

-- a byte that stands at neither erasure is kept
pub solved-kept : (r : ℕ) (run : Run) (j k : ℕ) (before after : List ℕ) → Solved r run j k before after → (p : ℕ)
    → ((t : ℕ) → t < run.width → p ≢ run.first + run.stride * j + t) → ((t : ℕ) → t < run.width → p ≢ run.first + run.stride * k + t)
    → get_or after p 0 ≡ get_or before p 0
solved-kept r run j k before after s p nj nk = s.kept p (off-of-ne run j p nj) (off-of-ne run k p nk)

-- each line is completed
pub solved-lines : (r : ℕ) (run : Run) (j k : ℕ) (before after : List ℕ) → Solved r run j k before after → run.width ≤ run.stride → j ≤ k
    → (t : ℕ) → t < run.width → (i : ℕ) → line_at after run t i ≡ completed r run.len j k (line_at before run t) i
solved-lines r run j k before after s apart le t l i =
    elim (ℕ_discrete i k) [
      | yes e ↦ ap (line_at after run t) e ∙ later ∙ ap (completed r run.len j k (line_at before run t)) (sym e)
      | no nk ↦
          elim (ℕ_discrete i j) [
            | yes e ↦
                ap (line_at after run t) e
                ∙ s.earlier (omega arith) t l
                ∙ ap (add (syndrome0 (erased j k (line_at before run t)) run.len)) (s.later t l)
                ∙ sym (completed-earlier r run.len j k (line_at before run t) (λ f. nk (e ∙ f)))
                ∙ ap (completed r run.len j k (line_at before run t)) (sym e)
            | no nj ↦ kept nj nk ∙ sym (completed-off r run.len j k (line_at before run t) i nj nk)
          ]
    ]
  where
    later : line_at after run t k ≡ completed r run.len j k (line_at before run t) k
    later = s.later t l ∙ sym (completed-later r run.len j k (line_at before run t))

    kept : i ≢ j → i ≢ k → line_at after run t i ≡ line_at before run t i
    kept nj nk = unfold line_at in s.kept _ (off-place run i j t apart (omega arith) nj) (off-place run i k t apart (omega arith) nk)

-- each line is a codeword where two places were erased
pub solved-codewords : (r : ℕ) (run : Run) (j k : ℕ) (before after : List ℕ) → Primitive r → Inside run (length before) → Solved r run j k before after
    → j < k → k < run.len → (t : ℕ) → t < run.width → Codeword r (line_at after run t) run.len
solved-codewords r run j k before after p inside s less l t m =
    codeword-cong r (completed r run.len j k (line_at before run t)) (line_at after run t) run.len
    (λ i q. sym (solved-lines r run j k before after s inside.apart (omega arith) t m i))
    (completed-codeword r run.len j k (line_at before run t) p inside.few_places less l)

-- each line is what every codeword is that agrees with it off the erasures
pub solved-forced : (r : ℕ) (run : Run) (j k : ℕ) (before after : List ℕ) → Primitive r → Inside run (length before) → Solved r run j k before after
    → j ≤ k → k < run.len → (t : ℕ) → t < run.width → ((i : ℕ) → i < run.len → line_at before run t i < 256)
    → (x : ℕ → ℕ) → ((i : ℕ) → i < run.len → x i < 256) → Codeword r x run.len
    → ((i : ℕ) → i < run.len → i ≢ j → i ≢ k → x i ≡ line_at before run t i)
    → (i : ℕ) → i < run.len → line_at after run t i ≡ x i
solved-forced r run j k before after p inside s le l t m bytes x bx w h i q =
    solved-lines r run j k before after s inside.apart le t m i
    ∙ sym (completed-forced r run.len j k (line_at before run t) x p inside.few_places bytes bx le l w h i q)

-- ---- lines encoded

module _ {r n : ℕ} {from to : Run} {ds before after : List ℕ} (feeds : Feeds from to n) (e : Encoded r from to ds before after) where
  -- each line of the data stands in its line
  pub encoded-placed : (t : ℕ) → t < to.width → (i : ℕ) → i < from.len → line_at after to t i ≡ line_at ds from t i
  encoded-placed t h i l =
      e.lines t h i (omega (arith, feeds.places))
      ∙ parity-off r to.len (line_at ds from t) i (omega (arith, feeds.places))

  -- each line is a codeword where α is primitive
  pub encoded-codewords : Primitive r → to.len ≤ 255 → (t : ℕ) → t < to.width → Codeword r (line_at after to t) to.len
  encoded-codewords p few t h =
      codeword-cong r (with_parity r to.len (line_at ds from t)) (line_at after to t) to.len
      (λ i l. sym (e.lines t h i l))
      (parity-right r to.len (line_at ds from t) p (omega (arith, feeds.places)) few)
