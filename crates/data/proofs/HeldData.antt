-- The data string that a cube holds, byte by byte: it is the one that its data cells hold, and a row of data cells stands together in the cube.
use mathlib.Core.Path.{◌≡◌, sym, ap, ap₂, ◌∙◌}
use mathlib.Core.List.{List}
use Prim.Native.Nat.{ℕ, ◌+◌, ◌-◌, ◌*◌, ◌/◌, ◌%◌, ◌<◌}
use native.Mathlib.Nat.{mul_comm, mul_assoc, mul_left_comm, add-mul, mod-lt, div-add-mod', div-lt_iff_lt-mul}
use native.Mathlib.Omega.{arith}
use lib.Arith.{digits_lt, digits_div, digits_mod}
use lib.ListN.{length, get_or}
use lib.Seq.{ext_get_or}
use Rattle.shape.specs.declared.Shape.{Shape}
use Rattle.shape.specs.Shapes.{Valid, cells, capacity, cell}
use Rattle.shape.proofs.Geometry.{cell-lt-cells, first-coordinate, second-coordinate, third-coordinate}
use Rattle.data.specs.Data.{layer, HoldsData, data_of, held_data}
use Rattle.data.proofs.Tables.{length-tabulate, get_d_tabulate, tabulate-lt}
use Rattle.data.specs.Theorems.{OneDataString}
use Rattle.data.proofs.Cells.{inner, data-unique}

-- byte y of a row that begins with cell n
row-byte : (n w y : ℕ) → (y / w + n) * w + y % w ≡ n * w + y
row-byte n w y = omega (arith, add-mul (y / w) n w, div-add-mod' y w)

pub row-start : (row m w : ℕ) → row * (m * w) ≡ m * row * w
row-start row m w = simp (mul_assoc, mul_left_comm)

-- byte w of data cell (a,b,c) is one of the data string
pub data-byte-lt : (sh : Shape) (a b c w : ℕ) → a < sh.l1 - 2 → b < sh.l2 - 2 → c < sh.l3 - 2 → w < sh.w
    → (a + (sh.l1 - 2) * (b + (sh.l2 - 2) * c)) * sh.w + w < capacity sh
unfolding inner cell cells capacity
data-byte-lt sh a b c w la lb lc lw =
    rw (mul_comm sh.w (cells (inner sh))) (digits_lt (cell-lt-cells (inner sh) a b c la lb lc) lw)

module _ (sh : Shape) (xs : List ℕ) where
  -- byte w of data cell (a,b,c)
  pub data_of-cell : (a b c w : ℕ) → a < sh.l1 - 2 → b < sh.l2 - 2 → w < sh.w
      → data_of sh xs (cell (inner sh) a b c * sh.w + w) ≡ layer sh xs w (cell sh a b c)
  unfolding data_of inner
  data_of-cell a b c w la lb lw =
      let n : ℕ = cell (inner sh) a b c in
      ap₂ (λ (k t : ℕ). layer sh xs t (cell sh (k % (sh.l1 - 2)) (k / (sh.l1 - 2) % (sh.l2 - 2)) (k / ((sh.l1 - 2) * (sh.l2 - 2)))))
      (digits_div n lw) (digits_mod n lw)
      ∙ ap₂ (λ (i j : ℕ). layer sh xs w (cell sh i j (n / ((sh.l1 - 2) * (sh.l2 - 2)))))
      (first-coordinate (inner sh) a b c la) (second-coordinate (inner sh) a b c la lb)
      ∙ ap (λ (k : ℕ). layer sh xs w (cell sh a b k)) (third-coordinate (inner sh) a b c la lb)

  pub length-held_data : length (held_data sh xs) ≡ capacity sh
  unfolding held_data
  length-held_data = length-tabulate _ _

  pub held_data-at : (q : ℕ) → q < capacity sh → get_or (held_data sh xs) q 0 ≡ data_of sh xs q
  unfolding held_data
  held_data-at q l = get_d_tabulate (capacity sh) (data_of sh xs) 0 q l

  -- a list of the right length that has its bytes
  pub held_data-is : (ds : List ℕ) → length ds ≡ capacity sh → ((q : ℕ) → q < capacity sh → data_of sh xs q ≡ get_or ds q 0) → held_data sh xs ≡ ds
  held_data-is ds size same =
      ext_get_or 0 (held_data sh xs) ds (length-held_data ∙ sym size)
      (λ q l. let less : q < capacity sh = omega (arith, length-held_data) in held_data-at q less ∙ same q less)

  -- it is what the data cells hold, and nothing else is
  pub held_data-holds : HoldsData sh xs (held_data sh xs)
  unfolding inner cell cells capacity
  held_data-holds =
      record {
        size = length-held_data;
        bytes = λ a b c w la lb lc lw.
            held_data-at (cell (inner sh) a b c * sh.w + w) (data-byte-lt sh a b c w la lb lc lw)
            ∙ data_of-cell a b c w la lb lw;
      }

  pub held_data-only : (ds : List ℕ) → Valid sh → HoldsData sh xs ds → ds ≡ held_data sh xs
  held_data-only ds v h = data-unique sh xs ds (held_data sh xs) v h held_data-holds

  pub held_data-lt : ((p : ℕ) → get_or xs p 0 < 256) → (p : ℕ) → get_or (held_data sh xs) p 0 < 256
  unfolding held_data data_of layer
  held_data-lt bytes = tabulate-lt (capacity sh) (data_of sh xs) (λ q l. bytes _)

  -- byte y of the data row (b,c)
  pub data_of-row : (b c y : ℕ) → 0 < sh.w → b < sh.l2 - 2 → y < (sh.l1 - 2) * sh.w
      → data_of sh xs ((b + (sh.l2 - 2) * c) * ((sh.l1 - 2) * sh.w) + y) ≡ get_or xs (sh.l1 * (b + sh.l2 * c) * sh.w + y) 0
  unfolding inner cell layer
  data_of-row b c y some lb ly =
      ap (data_of sh xs) (ap (λ (k : ℕ). k + y) (row-start (b + (sh.l2 - 2) * c) (sh.l1 - 2) sh.w) ∙ sym (row-byte _ sh.w y))
      ∙ data_of-cell (y / sh.w) b c (y % sh.w) ((div-lt_iff_lt-mul some).1 ly) lb (mod-lt y some)
      ∙ ap (λ (p : ℕ). get_or xs p 0) (row-byte (sh.l1 * (b + sh.l2 * c)) sh.w y)

-- ---- the theorem

pub one-data-string : OneDataString
unfolding OneDataString
one-data-string sh v xs = (held_data-holds sh xs, λ ds. held_data-only sh xs ds v)
