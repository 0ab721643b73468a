-- Byte geometry: rows, planes and cells one after the other.
use mathlib.Core.Path.{◌≡◌}
use Prim.Native.Nat.{ℕ, ◌+◌, ◌*◌, ◌≤◌, ◌<◌}
use native.Mathlib.Nat.{mul_assoc, mul_comm, mul_left_comm, mul-add, add_assoc, add_comm, add_left_comm}
use native.Mathlib.Omega.{arith}
use Rattle.span.proofs.Stretches.{stretch-end}
use Rattle.shape.specs.declared.Shape.{Shape}
use Rattle.shape.specs.Shapes.{cells}
use Rattle.cube.specs.Inner.Encoder.{spot, plane_bytes}

-- a plane is n rows of m cells
pub rows-in-plane : (m n w : ℕ) → n * (m * w) ≡ m * n * w
rows-in-plane m n w = simp (mul_assoc, mul_left_comm)

-- n planes of l times m cells
pub planes-in-cube : (l m n w : ℕ) → n * (l * m * w) ≡ w * (l * m * n)
planes-in-cube l m n w = simp (mul_assoc, mul_comm, mul_left_comm)

-- byte t of cell (a, b, c), where rows have m cells and planes n rows
pub cell-byte : (m n w a b c t : ℕ) → (a + m * (b + n * c)) * w + t ≡ c * (m * n * w) + spot m w a b t
unfolding spot
cell-byte m n w a b c t = simp (mul_assoc, mul_comm, mul_left_comm, mul-add, add_assoc, add_comm, add_left_comm)

-- a cell's bytes lie inside its row, and a row inside its plane
pub spot-low : (m w a b t : ℕ) → b * (m * w) ≤ spot m w a b t
unfolding spot
spot-low m w a b t = omega arith

pub spot-row : (m w a b t : ℕ) → a < m → t < w → spot m w a b t < b * (m * w) + m * w
unfolding spot
spot-row m w a b t l k = omega (arith, stretch-end a m w l)

pub spot-plane : (m n w a b t : ℕ) → a < m → b < n → t < w → spot m w a b t < m * n * w
spot-plane m n w a b t l k h = omega (arith, spot-row m w a b t l h, stretch-end b n (m * w) k, rows-in-plane m n w)

-- a cube is its l3 planes
pub planes-fill : (sh : Shape) → sh.l3 * plane_bytes sh ≡ sh.w * cells sh
unfolding cells
planes-fill sh = planes-in-cube sh.l1 sh.l2 sh.l3 sh.w

-- a plane lies inside the cube
pub plane-inside : (sh : Shape) (c : ℕ) → c < sh.l3 → c * plane_bytes sh + plane_bytes sh ≤ sh.w * cells sh
plane-inside sh c l = omega (arith, stretch-end c sh.l3 (plane_bytes sh) l, planes-fill sh)
