-- Cubes that agree cell by cell are equal; so a cube determines its data string, whose cells are those of a smaller cube.
use mathlib.Core.Path.{◌≡◌, sym, ◌∙◌}
use mathlib.Core.List.{List}
use Prim.Native.Nat.{ℕ, ◌+◌, ◌-◌, ◌*◌, ◌/◌, ◌%◌, ◌<◌}
use native.Mathlib.Nat.{mul_comm, mul-pos, mod-lt, div-add-mod', div-lt_iff_lt-mul}
use native.Mathlib.Omega.{arith}
use lib.ListN.{length, get_or}
use lib.Seq.{ext_get_or}
use Rattle.shape.specs.declared.Shape.{Shape}
use Rattle.shape.specs.Shapes.{Valid, cells, capacity, cell}
use Rattle.data.specs.Data.{layer, HoldsData}
use Rattle.shape.proofs.Geometry.{cell-coordinates, third-lt}

-- lists of W bytes a cell that agree in every layer of every cell are equal
pub cells_ext : (sh : Shape) (xs ys : List ℕ) → 0 < sh.l1 → 0 < sh.l2 → 0 < sh.w
    → length xs ≡ sh.w * cells sh → length ys ≡ sh.w * cells sh
    → ((a b c w : ℕ) → a < sh.l1 → b < sh.l2 → c < sh.l3 → w < sh.w → layer sh xs w (cell sh a b c) ≡ layer sh ys w (cell sh a b c))
    → xs ≡ ys
unfolding layer
cells_ext sh xs ys one two some p q same = ext_get_or 0 xs ys (p ∙ sym q) byte
  where
    byte : (i : ℕ) → i < length xs → get_or xs i 0 ≡ get_or ys i 0
    byte i h =
        let n : ℕ = i / sh.w in
        let below : n < cells sh = (div-lt_iff_lt-mul some).1 (rw (mul_comm (cells sh) sh.w, ← p) h) in
        let agree : get_or xs (n * sh.w + i % sh.w) 0 ≡ get_or ys (n * sh.w + i % sh.w) 0 =
        rw (← cell-coordinates sh n)
        (same (n % sh.l1) (n / sh.l1 % sh.l2) (n / (sh.l1 * sh.l2)) (i % sh.w)
        (mod-lt n one) (mod-lt (n / sh.l1) two) (third-lt sh n (mul-pos one two) below) (mod-lt i some))
        in
        rw (div-add-mod' i sh.w) at agree

-- the data cells are the cells of a smaller cube
unfoldable pub inner : Shape → Shape
inner sh = record { l1 = sh.l1 - 2; l2 = sh.l2 - 2; l3 = sh.l3 - 2; w = sh.w }

-- a cube holds one data string
pub data-unique : (sh : Shape) (xs ds es : List ℕ) → Valid sh → HoldsData sh xs ds → HoldsData sh xs es → ds ≡ es
unfolding inner layer cell cells capacity
data-unique sh xs ds es v h g =
    cells_ext (inner sh) ds es (omega (arith, v.l1_low)) (omega (arith, v.l2_low)) v.w_low h.size g.size
    (λ a b c w la lb lc lw. h.bytes a b c w la lb lc lw ∙ sym (g.bytes a b c w la lb lc lw))
