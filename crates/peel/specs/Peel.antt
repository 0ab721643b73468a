-- Peeling: how one cube and its flags lead to another, where it ends, and what `peel` answers and leaves for every input. r is the field's
-- reduction byte.
use Rattle.std.specs.Prelude.{◌≡◌, Bool, true, false, List, ◌⊎◌, ℕ, ◌*◌, ◌≤◌, ◌<◌, length, get_or}
use Rattle.span.specs.Decision.{Cases}
use Rattle.shape.specs.declared.Shape.{Shape}
use Rattle.shape.specs.Shapes.{Valid, cells, IsLine}
use Rattle.shape.specs.Flags.{missing}
use Rattle.data.specs.Data.{layer}
use Rattle.cube.specs.Cube.{layer_line}
use Rattle.line.specs.Line.{Codeword}
use Rattle.stopping.specs.Stopping.{on_line, Stopping}

-- cube and flags have the lengths of a valid shape
pub record Sized (sh : Shape) (xs fs : List ℕ) : Type 0 where
  pub valid : Valid sh
  pub bytes : length xs ≡ sh.w * cells sh
  pub flags : length fs ≡ cells sh

-- a line with no missing cell or at least three is not peeled
unfoldable pub Stops : List ℕ → ℕ → ℕ → ℕ → Type 0
Stops fs first stride len = (on_line (missing fs) first stride len ≡ 0) ⊎ (3 ≤ on_line (missing fs) first stride len)

-- v agrees with the cube on every cell that is not in M
unfoldable pub Agrees : Shape → List ℕ → (ℕ → Bool) → List ℕ → Type 0
Agrees sh xs M v = (n w : ℕ) → n < cells sh → w < sh.w → M n ≡ false → layer sh v w n ≡ layer sh xs w n

-- v is a codeword in each layer on every line without a cell of K
pub record CodeOff (r : ℕ) (sh : Shape) (K : ℕ → Bool) (v : List ℕ) : Type 0 where
  pub bytes : (p : ℕ) → get_or v p 0 < 256
  pub lines :
      (first stride len : ℕ) → IsLine sh first stride len → on_line K first stride len ≡ 0 →
      (w : ℕ) → w < sh.w → Codeword r (layer_line sh v w first stride) len

-- Peeling leads from one cube and its flags to another: filled cells are marked, all others keep byte and flag; no stopping set loses a cell; and
-- whatever is right on every line without a cell of a stopping set K agrees with the cube afterwards where it agreed before.
pub record Reaches (r : ℕ) (sh : Shape) (xs fs xs' fs' : List ℕ) : Type 0 where
  pub size : length xs' ≡ length xs
  pub flags : length fs' ≡ length fs
  pub marks : (n : ℕ) → (get_or fs' n 0 ≡ get_or fs n 0) ⊎ ((get_or fs n 0 ≡ 1) × (get_or fs' n 0 ≡ 3))
  pub known : (n w : ℕ) → n < cells sh → w < sh.w → missing fs n ≡ false → layer sh xs' w n ≡ layer sh xs w n
  pub left : (n w : ℕ) → n < cells sh → w < sh.w → missing fs' n ≡ true → layer sh xs' w n ≡ layer sh xs w n
  pub inside :
      (S : ℕ → Bool) → Stopping (cells sh) (IsLine sh) (missing fs) S →
      (n : ℕ) → n < cells sh → S n ≡ true → missing fs' n ≡ true
  pub agrees :
      (K : ℕ → Bool) → Stopping (cells sh) (IsLine sh) (missing fs) K →
      (v : List ℕ) → CodeOff r sh K v → Agrees sh xs (missing fs) v → Agrees sh xs' (missing fs') v

-- The end of peeling.
pub record Peeled (r : ℕ) (sh : Shape) (xs fs xs' fs' : List ℕ) : Type 0 where
  pub reaches : Reaches r sh xs fs xs' fs'
  pub stops : (first stride len : ℕ) → IsLine sh first stride len → Stops fs' first stride len

-- What `peel` answers and leaves: a cube and flags of the lengths of a valid shape are peeled, and any others kept.
abbrev pub PeelOutcome : ℕ → Shape → List ℕ → List ℕ → List ℕ → List ℕ → Bool → Type 0
PeelOutcome r sh xs fs xs' fs' answer =
    Cases (Sized sh xs fs) ((answer ≡ true) × Peeled r sh xs fs xs' fs') ((answer ≡ false) × (xs' ≡ xs) × (fs' ≡ fs))
