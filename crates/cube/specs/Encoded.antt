-- The code cube of a data string, written down: a layer is a function of the three coordinates, and each axis is encoded in turn.
use Rattle.std.specs.Prelude.{List, ℕ, ◌+◌, ◌-◌, ◌*◌, ◌/◌, ◌%◌, get_or}
use Rattle.shape.specs.declared.Shape.{Shape}
use Rattle.shape.specs.Shapes.{cells}
use Rattle.line.specs.Line.{with_parity}
use Rattle.data.specs.Tables.{tabulate}

-- the cube whose layer w has the byte f w a b c at cell (a,b,c)
unfoldable pub of_layers : Shape → (ℕ → ℕ → ℕ → ℕ → ℕ) → List ℕ
of_layers sh f =
    tabulate (sh.w * cells sh)
    (λ p. f (p % sh.w) (p / sh.w % sh.l1) (p / sh.w / sh.l1 % sh.l2) (p / sh.w / (sh.l1 * sh.l2)))

-- one axis of a layer encoded: every line of the axis gets its parity
unfoldable pub along1 : ℕ → ℕ → (ℕ → ℕ → ℕ → ℕ) → ℕ → ℕ → ℕ → ℕ
along1 r n x a b c = with_parity r n (λ i. x i b c) a

unfoldable pub along2 : ℕ → ℕ → (ℕ → ℕ → ℕ → ℕ) → ℕ → ℕ → ℕ → ℕ
along2 r n x a b c = with_parity r n (λ i. x a i c) b

unfoldable pub along3 : ℕ → ℕ → (ℕ → ℕ → ℕ → ℕ) → ℕ → ℕ → ℕ → ℕ
along3 r n x a b c = with_parity r n (λ i. x a b i) c

-- a layer whose data cells are those of x
unfoldable pub layer_encoded : ℕ → Shape → (ℕ → ℕ → ℕ → ℕ) → ℕ → ℕ → ℕ → ℕ
layer_encoded r sh x = along3 r sh.l3 (along2 r sh.l2 (along1 r sh.l1 x))

-- byte w of data cell (a,b,c) in the data string
unfoldable pub data_byte : Shape → List ℕ → ℕ → ℕ → ℕ → ℕ → ℕ
data_byte sh ds w a b c = get_or ds ((a + (sh.l1 - 2) * (b + (sh.l2 - 2) * c)) * sh.w + w) 0

-- the code cube of a data string
unfoldable pub encoded : ℕ → Shape → List ℕ → List ℕ
encoded r sh ds = of_layers sh (λ w. layer_encoded r sh (data_byte sh ds w))
