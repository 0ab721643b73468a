-- What document 01 says of filling, as theorems about the definitions; proofs/Theorems.antt has the proofs. r is the field's reduction byte.
use Rattle.std.specs.Prelude.{◌≡◌, Bool, true, false, List, ◌↔◌, ◌⊎◌, ℕ, ◌*◌, ◌<◌, length}
use Rattle.answer.specs.Values.{Value, gives, refused, passes}
use Rattle.field.specs.Field.{Primitive}
use Rattle.shape.specs.declared.Shape.{Shape}
use Rattle.shape.specs.Shapes.{Valid, cells, IsLine}
use Rattle.shape.specs.Flags.{missing, none_missing}
use Rattle.data.specs.Data.{layer}
use Rattle.cube.specs.Cube.{CodeCube}
use Rattle.stopping.specs.Stopping.{number, Largest}
use Rattle.fill.specs.Fill.{CellsLeft, left, flags_checked, Filling, FillOutcome}

-- "There is at most one."
unfoldable pub OneFilling : Type 0
OneFilling =
    (r : ℕ) → Primitive r → (sh : Shape) → Valid sh → (xs : List ℕ) → length xs ≡ sh.w * cells sh →
    (M K : ℕ → Bool) → Largest (cells sh) (IsLine sh) M K →
    (v u : List ℕ) → Filling r sh xs M K v → Filling r sh xs M K u → v ≡ u

-- two cubes of one length whose known cells have the same bytes
pub record SameKnown (sh : Shape) (M : ℕ → Bool) (xs ys : List ℕ) : Type 0 where
  pub size : length xs ≡ length ys
  pub known : (n w : ℕ) → n < cells sh → w < sh.w → M n ≡ false → layer sh xs w n ≡ layer sh ys w n

-- "Bytes of missing cells are not read.": what a call that passes the checks answers and leaves does not depend on them
unfoldable pub MissingNotRead : Type 0
MissingNotRead =
    (r : ℕ) (sh : Shape) (xs ys fs xs' fs' : List ℕ) (value : Value CellsLeft) → SameKnown sh (missing fs) xs ys →
    flags_checked sh (length xs) fs ≡ passes tt → FillOutcome r sh xs fs xs' fs' value → FillOutcome r sh ys fs xs' fs' value

-- "If it exists, it is written … and the answer carries K's size. Otherwise refusal 13."
unfoldable pub FillingOrContradiction : Type 0
FillingOrContradiction =
    (r : ℕ) → Primitive r → (sh : Shape) (xs fs xs' fs' : List ℕ) (value : Value CellsLeft) →
    flags_checked sh (length xs) fs ≡ passes tt → FillOutcome r sh xs fs xs' fs' value →
    (K : ℕ → Bool) → Largest (cells sh) (IsLine sh) (missing fs) K →
    ((value ≡ refused 13) ↔ ((v : List ℕ) → Filling r sh xs (missing fs) K v → ⊥))
    × ((v : List ℕ) → Filling r sh xs (missing fs) K v →
    (value ≡ gives (left (number K (cells sh)))) × (xs' ≡ v) × ((n : ℕ) → n < cells sh → missing fs' n ≡ K n))

-- "With no cell missing this is a check of the cube."
unfoldable pub CheckOfCube : Type 0
CheckOfCube =
    (r : ℕ) (sh : Shape) (xs fs xs' fs' : List ℕ) (value : Value CellsLeft) →
    flags_checked sh (length xs) fs ≡ passes tt → none_missing fs ≡ true → FillOutcome r sh xs fs xs' fs' value →
    ((CodeCube r sh xs × (value ≡ gives (left 0))) ⊎ ((CodeCube r sh xs → ⊥) × (value ≡ refused 13)))
    × (xs' ≡ xs) × (fs' ≡ fs)
