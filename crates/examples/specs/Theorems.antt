-- A sentence of document 01 that an example proves, and that the seven bytes of request P6 are the most.
use Rattle.std.specs.Prelude.{◌≡◌, List, ℕ, ◌<◌, get_or}
use Rattle.answer.specs.Values.{Value, gives, refused}
use Rattle.field.specs.Field.{reduction}
use Rattle.shape.specs.declared.Shape.{Shape}
use Rattle.shape.specs.Shapes.{cells}
use Rattle.shape.specs.Flags.{missing}
use Rattle.stopping.specs.Stopping.{number}
use Rattle.cube.specs.Cube.{CodeCube}
use Rattle.fill.specs.Fill.{FillOutcome}
use Rattle.mend.specs.Mend.{MendOutcome}
use Rattle.mend.specs.Theorems.{wrong_byte}

-- "a single hole may also show a contradiction"
unfoldable pub SingleContradicts : Type 0
SingleContradicts =
    (sh : Shape) × (xs : List ℕ) × (fs : List ℕ) × (xs' : List ℕ) × (fs' : List ℕ)
    × (number (missing fs) (cells sh) ≡ 1) × FillOutcome reduction sh xs fs xs' fs' (refused 13)

-- A cube of bytes that differs from the code cube zs in `count` bytes of each layer, and what `mend` answers to it.
pub record Damaged (count : ℕ) (value : Value Unit) : Type 0 where
  pub sh : Shape
  pub xs : List ℕ
  pub zs : List ℕ
  pub fs : List ℕ
  pub before : List ℕ
  pub after : List ℕ
  pub bytes : (p : ℕ) → get_or xs p 0 < 256
  pub code : CodeCube reduction sh zs
  pub count_wrong : (w : ℕ) → w < sh.w → number (wrong_byte sh xs zs w) (cells sh) ≡ count
  pub mends : MendOutcome reduction sh xs fs before after value

-- "in at most seven bytes of each layer": there are cubes with seven, and there is one with eight that is refused
pub record SevenTight : Type 0 where
  pub seven : Damaged 7 (gives tt)
  pub eight : Damaged 8 (refused 16)
