-- Filling (document 01, "Filling"): iterative erasure decoding of a cube, and what the call `fill` answers and leaves for every input. r is the
-- field's reduction byte.
use Rattle.answer.specs.declared.Refusal.{Refusal}
use Rattle.std.specs.Prelude.{◌≡◌, Bool, true, false, List, ℕ, ◌<◌, eqb, length, get_or, Result, Ok, Err}
use Rattle.answer.specs.Values.{Value, gives, refused, Checked, passes, fails, check, and_then, refusal}
use Rattle.shape.specs.declared.Shape.{Shape}
use Rattle.shape.specs.Shapes.{both, cells, shape_checked, IsLine}
use Rattle.shape.specs.Flags.{missing, flags_valid}
use Rattle.line.specs.Line.{Codeword}
use Rattle.data.specs.Data.{layer}
use Rattle.cube.specs.Cube.{layer_line}
use Rattle.stopping.specs.Stopping.{number, on_line, Largest}

-- "the answer carries K's size"
pub data CellsLeft : Type 0 where
  left : (cells : ℕ) → CellsLeft

-- what `fill` answers
unfoldable pub fill_value : Result ℕ Refusal → Value CellsLeft
fill_value (Ok n) = gives (left n)
fill_value (Err f) = refusal f

-- The checks 1, 2, 3, 4, 5 in this order; request P5: "5 a flag above 2".
unfoldable pub flags_checked : Shape → ℕ → List ℕ → Checked Unit
flags_checked sh cube_length fs =
    and_then (shape_checked sh) (λ z.
    check (both (eqb cube_length z.bytes) (eqb (length fs) z.cells)) 4
    (check (flags_valid fs) 5 (passes tt)))

-- "A filling gives bytes to the missing cells outside K so that every line without a cell of K is right in every layer." The known
-- cells, those not in M, keep their bytes, and the cells of K are 00h.
pub record Filling (r : ℕ) (sh : Shape) (xs : List ℕ) (M K : ℕ → Bool) (v : List ℕ) : Type 0 where
  pub size : length v ≡ length xs
  pub bytes : (p : ℕ) → get_or v p 0 < 256
  pub known : (n w : ℕ) → n < cells sh → w < sh.w → M n ≡ false → layer sh v w n ≡ layer sh xs w n
  pub cleared : (n w : ℕ) → n < cells sh → w < sh.w → K n ≡ true → layer sh v w n ≡ 0
  pub lines :
      (first stride len : ℕ) → IsLine sh first stride len → on_line K first stride len ≡ 0 →
      (w : ℕ) → w < sh.w → Codeword r (layer_line sh v w first stride) len

-- "missing cells 00h": the cube with each missing cell cleared
pub record Cleared (sh : Shape) (xs : List ℕ) (M : ℕ → Bool) (v : List ℕ) : Type 0 where
  pub size : length v ≡ length xs
  pub known : (n w : ℕ) → n < cells sh → w < sh.w → M n ≡ false → layer sh v w n ≡ layer sh xs w n
  pub missing : (n w : ℕ) → n < cells sh → w < sh.w → M n ≡ true → layer sh v w n ≡ 0

-- The flags after a filling: "its flags become 0, cells of K … keep flag 1", and 2 is a flag "which filling treats as known and keeps" (request
-- P5). That they are valid where those before the call were need not be said: it follows (`flagged-valid`).
pub record Flagged (fs fs' : List ℕ) : Type 0 where
  pub size : length fs' ≡ length fs
  pub known : (n : ℕ) → missing fs n ≡ false → get_or fs' n 0 ≡ get_or fs n 0
  pub filled : (n : ℕ) → missing fs n ≡ true → missing fs' n ≡ false → get_or fs' n 0 ≡ 0

-- What `fill` answers and leaves. The cells missing afterwards are K; on 13 K is only shown to exist, and the flags are as before.
pub data FillOutcome (r : ℕ) (sh : Shape) (xs fs xs' fs' : List ℕ) : Value CellsLeft → Type 0 where
  -- "Numbers 1 to 11 and 15 change no lent byte"
  fill_refused :
      (n : ℕ) → flags_checked sh (length xs) fs ≡ fails n → xs' ≡ xs → fs' ≡ fs →
      FillOutcome r sh xs fs xs' fs' (refused n)
  -- "If it exists, it is written, its flags become 0, cells of K get 00h and keep flag 1, and the answer carries K's size."
  fill_done :
      flags_checked sh (length xs) fs ≡ passes tt → Flagged fs fs' →
      Largest (cells sh) (IsLine sh) (missing fs) (missing fs') →
      Filling r sh xs (missing fs) (missing fs') xs' →
      FillOutcome r sh xs fs xs' fs' (gives (left (number (missing fs') (cells sh))))
  -- "Otherwise refusal 13." "13: missing cells 00h, flags as before filling."
  fill_contradiction :
      flags_checked sh (length xs) fs ≡ passes tt →
      (K : ℕ → Bool) → Largest (cells sh) (IsLine sh) (missing fs) K →
      ((v : List ℕ) → Filling r sh xs (missing fs) K v → ⊥) →
      Cleared sh xs (missing fs) xs' → fs' ≡ fs →
      FillOutcome r sh xs fs xs' fs' (refused 13)
