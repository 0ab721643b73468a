-- The cube's shape (document 01, "Cube"): its limits, its sizes, its cells and the lines of its three axes.
use Rattle.std.specs.Prelude.{Bool, false, cond, ℕ, ◌+◌, ◌-◌, ◌*◌, ◌/◌, ◌%◌, ◌≤◌, ◌<◌, leb, ltb}
use Rattle.answer.specs.Values.{Checked, passes, check, and_then}
use Rattle.shape.specs.declared.Shape.{Shape}
use Rattle.shape.specs.declared.Sizes.{Sizes}
use Rattle.shape.specs.declared.Axis.{Axis}
use Rattle.shape.specs.declared.Line.{Line}

-- "cells = L1 × L2 × L3"
unfoldable pub cells : Shape → ℕ
cells sh = sh.l1 * sh.l2 * sh.l3

-- how many data cells there are: "A data cell has a < L1-2, b < L2-2 and c < L3-2."
unfoldable pub data_cells : Shape → ℕ
data_cells sh = (sh.l1 - 2) * (sh.l2 - 2) * (sh.l3 - 2)

-- "its capacity is W × (L1-2)(L2-2)(L3-2)"
unfoldable pub capacity : Shape → ℕ
capacity sh = sh.w * ((sh.l1 - 2) * (sh.l2 - 2) * (sh.l3 - 2))

-- "Lengths L1, L2, L3 are each 3 to 255 … a packet of W bytes, 1 to 1,024, with W × cells at most 268,435,456."
pub record Valid (sh : Shape) : Type 0 where
  pub l1_low : 3 ≤ sh.l1
  pub l1_high : sh.l1 ≤ 255
  pub l2_low : 3 ≤ sh.l2
  pub l2_high : sh.l2 ≤ 255
  pub l3_low : 3 ≤ sh.l3
  pub l3_high : sh.l3 ≤ 255
  pub w_low : 1 ≤ sh.w
  pub w_high : sh.w ≤ 1024
  pub volume : sh.w * cells sh ≤ 268435456

unfoldable pub both : Bool → Bool → Bool
both a b = cond a b false

-- low ≤ n ≤ high
unfoldable pub within : ℕ → ℕ → ℕ → Bool
within low high n = both (leb low n) (leb n high)

unfoldable pub lengths_fit : Shape → Bool
lengths_fit sh = both (within 3 255 sh.l1) (both (within 3 255 sh.l2) (within 3 255 sh.l3))

unfoldable pub sizes : Shape → Sizes
sizes sh = record { cells = cells sh; bytes = sh.w * cells sh; capacity = capacity sh }

-- The checks 1, 2 and 3 of a shape, in this order.
unfoldable pub shape_checked : Shape → Checked Sizes
shape_checked sh =
    check (lengths_fit sh) 1
    (check (within 1 1024 sh.w) 2
    (check (leb (sh.w * cells sh) 268435456) 3 (passes (sizes sh))))

-- "Cell (a,b,c) has number a + L1 × (b + L2 × c)"
unfoldable pub cell : Shape → ℕ → ℕ → ℕ → ℕ
cell sh a b c = a + sh.l1 * (b + sh.l2 * c)

-- cell n is a data cell
unfoldable pub data_cell : Shape → ℕ → Bool
data_cell sh n =
    both (ltb (n % sh.l1) (sh.l1 - 2))
    (both (ltb (n / sh.l1 % sh.l2) (sh.l2 - 2)) (ltb (n / (sh.l1 * sh.l2)) (sh.l3 - 2)))

-- "An axis is 1, 2 or 3"
abbrev pub IsAxis : ℕ → Type 0
IsAxis axis = (1 ≤ axis) × (axis ≤ 3)

-- "An axis is 1, 2 or 3; a line fixes the other two coordinates." A line of an axis by its first cell, the stride from cell to cell, and its
-- length.
pub data AxisLine (sh : Shape) : ℕ → ℕ → ℕ → ℕ → Type 0 where
  axis1 : (b c : ℕ) → b < sh.l2 → c < sh.l3 → AxisLine sh 1 (cell sh 0 b c) 1 sh.l1
  axis2 : (a c : ℕ) → a < sh.l1 → c < sh.l3 → AxisLine sh 2 (cell sh a 0 c) sh.l1 sh.l2
  axis3 : (a b : ℕ) → a < sh.l1 → b < sh.l2 → AxisLine sh 3 (cell sh a b 0) (sh.l1 * sh.l2) sh.l3

-- a line of any axis
pub data IsLine (sh : Shape) : ℕ → ℕ → ℕ → Type 0 where
  along : {axis first stride len : ℕ} → AxisLine sh axis first stride len → IsLine sh first stride len

-- the stride of an axis, its length, and how many lines it has
unfoldable pub stride_of : Shape → ℕ → ℕ
stride_of sh axis = cond (leb axis 1) 1 (cond (leb axis 2) sh.l1 (sh.l1 * sh.l2))

unfoldable pub length_of : Shape → ℕ → ℕ
length_of sh axis = cond (leb axis 1) sh.l1 (cond (leb axis 2) sh.l2 sh.l3)

unfoldable pub lines_of : Shape → ℕ → ℕ
lines_of sh axis = cond (leb axis 1) (sh.l2 * sh.l3) (cond (leb axis 2) (sh.l1 * sh.l3) (sh.l1 * sh.l2))

-- An axis of a shape. A number that is no axis is refused as 1; the axis is asked first, then the shape.
unfoldable pub axis_of : Shape → ℕ → Checked Axis
axis_of sh axis =
    check (within 1 3 axis) 1
    (and_then (shape_checked sh) (λ z. passes (record { lines = lines_of sh axis; stride = stride_of sh axis; len = length_of sh axis })))

-- the first cell of line m of an axis, lines counted by the cell number of their first cell
unfoldable pub first_of : Shape → ℕ → ℕ → ℕ
first_of sh axis m =
    m / stride_of sh axis * (stride_of sh axis * length_of sh axis) + m % stride_of sh axis

-- line m of an axis, where the axis has so many
unfoldable pub line_in : Shape → ℕ → ℕ → Checked Line
line_in sh axis m =
    check (ltb m (lines_of sh axis)) 1
    (passes (record { first = first_of sh axis m; stride = stride_of sh axis; len = length_of sh axis }))

-- Line m of an axis. A number that is no axis or no line of it is refused as 1; the axis is asked first, then the shape.
unfoldable pub line_of : Shape → ℕ → ℕ → Checked Line
line_of sh axis m = check (within 1 3 axis) 1 (and_then (shape_checked sh) (λ z. line_in sh axis m))
