-- What the encoder's own functions leave in lent memory. The public calls' contracts say nothing of these.
use Rattle.std.specs.Prelude.{◌≡◌, List, ℕ, ◌+◌, ◌-◌, ◌*◌, ◌≤◌, ◌<◌, get_or}
use Rattle.shape.specs.declared.Shape.{Shape}
use Rattle.line.specs.Line.{Codeword}

-- the bytes of a plane, and those of its data
abbrev pub plane_bytes : Shape → ℕ
plane_bytes sh = sh.l1 * sh.l2 * sh.w

abbrev pub part_bytes : Shape → ℕ
part_bytes sh = (sh.l1 - 2) * (sh.l2 - 2) * sh.w

-- byte t of cell a in row b, where rows have m cells of w bytes
unfoldable pub spot : ℕ → ℕ → ℕ → ℕ → ℕ → ℕ
spot m w a b t = b * (m * w) + (a * w + t)

-- Rows of a plane, m cells of w bytes each, before and after the first of them were completed: those are codewords in each layer, and
-- every row keeps its first m - 2 cells.
pub record RowsCompleted (r m w rows : ℕ) (before after : List ℕ) : Type 0 where
  pub lines : (b t : ℕ) → b < rows → t < w → Codeword r (λ a. get_or after (spot m w a b t) 0) m
  pub kept :
      (a b t : ℕ) → a < m - 2 → t < w →
      get_or after (spot m w a b t) 0 ≡ get_or before (spot m w a b t) 0

-- The plane of bytes p has the data cells of the plane d, and each row and each column of it is a codeword in each layer.
pub record PlaneCode (r : ℕ) (sh : Shape) (d p : ℕ → ℕ) : Type 0 where
  pub rows :
      (b t : ℕ) → b < sh.l2 → t < sh.w → Codeword r (λ a. p (spot sh.l1 sh.w a b t)) sh.l1
  pub columns :
      (a t : ℕ) → a < sh.l1 → t < sh.w → Codeword r (λ b. p (spot sh.l1 sh.w a b t)) sh.l2
  pub kept :
      (a b t : ℕ) → a < sh.l1 - 2 → b < sh.l2 - 2 → t < sh.w →
      p (spot sh.l1 sh.w a b t) ≡ d (spot sh.l1 sh.w a b t)

-- The first planes of a cube, coded; the others are as before.
pub record PlanesCoded (r : ℕ) (sh : Shape) (planes : ℕ) (before after : List ℕ) : Type 0 where
  pub coded :
      (c : ℕ) → c < planes →
      PlaneCode r sh (λ p. get_or before (c * plane_bytes sh + p) 0)
      (λ p. get_or after (c * plane_bytes sh + p) 0)
  pub rest : (p : ℕ) → planes * plane_bytes sh ≤ p → get_or after p 0 ≡ get_or before p 0

-- The data cells of each plane's first rows: those of the data planes hold the data string, and the lines of axis 3 through them
-- are codewords in each layer.
pub record RowsEncoded (r : ℕ) (sh : Shape) (rows : ℕ) (ds xs : List ℕ) : Type 0 where
  pub lines :
      (a b t : ℕ) → a < sh.l1 - 2 → b < rows → t < sh.w →
      Codeword r (λ c. get_or xs (c * plane_bytes sh + spot sh.l1 sh.w a b t) 0) sh.l3
  pub holds :
      (a b c t : ℕ) → a < sh.l1 - 2 → b < rows → c < sh.l3 - 2 → t < sh.w →
      get_or ds (c * part_bytes sh + spot (sh.l1 - 2) sh.w a b t) 0 ≡
      get_or xs (c * plane_bytes sh + spot sh.l1 sh.w a b t) 0

-- The data cells of each plane's rows, before and after the lines of axis 3 through the first of those rows were completed: those lines are
-- codewords in each layer, and the data cells of the data planes are kept.
pub record AcrossCompleted (r : ℕ) (sh : Shape) (rows : ℕ) (before after : List ℕ) : Type 0 where
  pub lines :
      (a b t : ℕ) → a < sh.l1 - 2 → b < rows → t < sh.w →
      Codeword r (λ c. get_or after (c * plane_bytes sh + spot sh.l1 sh.w a b t) 0) sh.l3
  pub kept :
      (a b c t : ℕ) → a < sh.l1 - 2 → b < sh.l2 - 2 → c < sh.l3 - 2 → t < sh.w →
      get_or after (c * plane_bytes sh + spot sh.l1 sh.w a b t) 0 ≡
      get_or before (c * plane_bytes sh + spot sh.l1 sh.w a b t) 0
