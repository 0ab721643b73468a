-- The data string stretch by stretch: where a stretch begins, that it lies inside the cube, and where the next row stands.
use mathlib.Core.Path.{◌≡◌, refl, sym, ap, subst, ◌∙◌}
use mathlib.Core.List.{List}
use Prim.Native.Nat.{ℕ, ◌+◌, ◌-◌, ◌*◌, ◌/◌, ◌%◌, ◌≤◌, ◌<◌}
use native.Mathlib.Nat.{mul_comm, mul-le-mul, mul-le-mul_right, mul-pos, add-mul, mod-lt, mod-add-div, div-add-mod', div-lt_iff_lt-mul}
use native.Mathlib.Omega.{arith}
use lib.ListN.{get_or}
use Rattle.span.proofs.Stretches.{stretch-end, factor-below}
use Rattle.shape.specs.declared.Shape.{Shape}
use Rattle.shape.specs.Shapes.{Valid, cells, capacity, cell}
use Rattle.shape.proofs.Geometry.{cell-lt-cells}
use Rattle.data.specs.declared.place.Stretch.{Stretch}
use Rattle.data.specs.Data.{data_of}
use Rattle.data.specs.Inner.Place.{Standing}
use Rattle.data.proofs.HeldData.{data_of-row}

-- ---- sizes

pub width-pos : (sh : Shape) → Valid sh → 0 < (sh.l1 - 2) * sh.w
width-pos sh v =
    let some : 0 < sh.l1 - 2 = omega (arith, v.l1_low) in
    mul-pos some v.w_low

pub rows-pos : (sh : Shape) → Valid sh → 0 < sh.l2 - 2
rows-pos sh v = omega (arith, v.l2_low)

-- the data string is its rows
pub capacity-rows : (sh : Shape) → capacity sh ≡ (sh.l3 - 2) * (sh.l2 - 2) * ((sh.l1 - 2) * sh.w)
unfolding capacity
capacity-rows sh = omega arith

-- the third coordinate of byte q
third-le : (sh : Shape) (q : ℕ) → Valid sh → q ≤ capacity sh → q / ((sh.l1 - 2) * sh.w) / (sh.l2 - 2) < sh.l3 - 2 + 1
third-le sh q v l =
    let width : ℕ = (sh.l1 - 2) * sh.w in
    let planes : ℕ = (sh.l3 - 2) * (sh.l2 - 2) in
    let row : q / width < planes + 1 =
    (div-lt_iff_lt-mul (width-pos sh v)).1 (omega (arith, capacity-rows sh, width-pos sh v, add-mul planes 1 width)) in
    (div-lt_iff_lt-mul (rows-pos sh v)).1 (omega (arith, rows-pos sh v, add-mul (sh.l3 - 2) 1 (sh.l2 - 2)))

-- where byte q stands fits a word
pub record Reach (sh : Shape) (b c : ℕ) : Type 0 where
  pub plane : sh.l2 * c ≤ 65025
  pub row : b + sh.l2 * c ≤ 65280
  pub cell : sh.l1 * (b + sh.l2 * c) ≤ 16646400
  pub byte : sh.l1 * (b + sh.l2 * c) * sh.w ≤ 17045913600

pub reach : (sh : Shape) (q : ℕ) → Valid sh → q ≤ capacity sh
    → Reach sh (q / ((sh.l1 - 2) * sh.w) % (sh.l2 - 2)) (q / ((sh.l1 - 2) * sh.w) / (sh.l2 - 2))
reach sh q v l =
    let b : ℕ = q / ((sh.l1 - 2) * sh.w) % (sh.l2 - 2) in
    let c : ℕ = q / ((sh.l1 - 2) * sh.w) / (sh.l2 - 2) in
    let second : b < sh.l2 - 2 = mod-lt (q / ((sh.l1 - 2) * sh.w)) (rows-pos sh v) in
    let third : c ≤ 255 = omega (arith, third-le sh q v l, v.l3_high) in
    let plane : sh.l2 * c ≤ 65025 = mul-le-mul v.l2_high third in
    let row : b + sh.l2 * c ≤ 65280 = omega (arith, v.l2_high) in
    let cell : sh.l1 * (b + sh.l2 * c) ≤ 16646400 = mul-le-mul v.l1_high row in
    record { plane = plane; row = row; cell = cell; byte = mul-le-mul cell v.w_high }

-- ---- products

row_inside : (x l d n w : ℕ) → x + l ≤ n → d ≤ l → x * w + d * w ≤ w * n
row_inside x l d n w h g = omega (arith, mul-le-mul_right w h, mul-le-mul_right w g)

one_more : (b n width : ℕ) → (b + 1 + n) * width ≡ (b + n) * width + width
one_more b n width = omega (arith, add-mul (b + n) 1 width)

row_more : (l b n w : ℕ) → l * (b + 1 + n) * w ≡ l * (b + n) * w + l * w
row_more l b n w = omega arith

parity-cells : (l w : ℕ) → 3 ≤ l → (l - 2) * w + 2 * w ≡ l * w
parity-cells l w low =
    let whole : l - 2 + 2 ≡ l = omega arith in
    sym (add-mul (l - 2) 2 w) ∙ ap (λ (k : ℕ). k * w) whole

-- a row behind the two parity rows of a plane
plane-more : (l b n w : ℕ) → l * (b + 1 + n + 2) * w ≡ l * (b + n) * w + l * w + 2 * (l * w)
plane-more l b n w = omega arith

-- ---- a stretch

-- byte q begins one
pub standing-at : (sh : Shape) (q : ℕ) → Valid sh →
    let width : ℕ = (sh.l1 - 2) * sh.w in
    let rows : ℕ = sh.l2 - 2 in
    Standing sh q
    (record { at = sh.l1 * (q / width % rows + sh.l2 * (q / width / rows)) * sh.w + q % width; len = width - q % width; b = q / width % rows })
standing-at sh q v =
    let width : ℕ = (sh.l1 - 2) * sh.w in
    let rows : ℕ = sh.l2 - 2 in
    let below = mod-lt q (width-pos sh v) in
    record {
      c = q / width / rows;
      y = q % width;
      second = mod-lt (q / width) (rows-pos sh v);
      number = sym (ap (λ (k : ℕ). k * width + q % width) (mod-add-div (q / width) rows) ∙ div-add-mod' q width);
      place = refl;
      rest = omega arith;
      some = omega arith;
    }

pub standing-same : (sh : Shape) (p q : ℕ) (s : Stretch) → p ≡ q → Standing sh p s → Standing sh q s
standing-same sh p q s e h = subst (λ (k : ℕ). Standing sh k s) e h

module _ (sh : Shape) (q : ℕ) (s : Stretch) (v : Valid sh) (h : Standing sh q s) where
  -- its bytes are those of the data string
  pub standing-byte : (xs : List ℕ) (i : ℕ) → i < s.len → data_of sh xs (q + i) ≡ get_or xs (s.at + i) 0
  standing-byte xs i l =
      let from : (s.b + (sh.l2 - 2) * h.c) * ((sh.l1 - 2) * sh.w) + (h.y + i) ≡ q + i = omega (arith, h.number) in
      let to : sh.l1 * (s.b + sh.l2 * h.c) * sh.w + (h.y + i) ≡ s.at + i = omega (arith, h.place) in
      ap (data_of sh xs) (sym from) ∙ data_of-row sh xs s.b h.c (h.y + i) v.w_low h.second (omega (arith, h.rest))
      ∙ ap (λ (p : ℕ). get_or xs p 0) to

  row_below : q < capacity sh → s.b + (sh.l2 - 2) * h.c < (sh.l3 - 2) * (sh.l2 - 2)
  row_below l =
      factor-below (s.b + (sh.l2 - 2) * h.c) ((sh.l3 - 2) * (sh.l2 - 2)) ((sh.l1 - 2) * sh.w)
      (omega (arith, h.number, capacity-rows sh))

  -- and lie inside the data string and inside the cube
  pub standing-end : q < capacity sh → q + s.len ≤ capacity sh
  standing-end l =
      omega (
        arith,
        h.number,
        h.rest,
        capacity-rows sh,
        stretch-end (s.b + (sh.l2 - 2) * h.c) ((sh.l3 - 2) * (sh.l2 - 2)) ((sh.l1 - 2) * sh.w) (row_below l),
      )

  -- in a data plane
  pub standing-plane : q < capacity sh → h.c < sh.l3 - 2
  standing-plane l = factor-below h.c (sh.l3 - 2) (sh.l2 - 2) (omega (arith, row_below l, mul_comm (sh.l2 - 2) h.c))

  pub standing-inside : q < capacity sh → s.at + s.len ≤ sh.w * cells sh
  unfolding cell
  standing-inside l =
      let plane = standing-plane l in
      let last = cell-lt-cells sh (sh.l1 - 1) s.b h.c (omega (arith, v.l1_low)) (omega (arith, h.second)) (omega arith) in
      let row : sh.l1 * (s.b + sh.l2 * h.c) + sh.l1 ≤ cells sh = omega (arith, v.l1_low) in
      omega (arith, h.place, h.rest, row_inside (sh.l1 * (s.b + sh.l2 * h.c)) sh.l1 (sh.l1 - 2) (cells sh) sh.w row (omega arith))

  -- the row beside it, or the first one of the next plane
  pub standing-beside : s.b + 1 < sh.l2 - 2
      → Standing sh (q + s.len) (record { at = s.at + s.len + 2 * sh.w; len = (sh.l1 - 2) * sh.w; b = s.b + 1 })
  standing-beside l =
      record {
        c = h.c;
        y = 0;
        second = l;
        number = omega (arith, h.number, h.rest, one_more s.b ((sh.l2 - 2) * h.c) ((sh.l1 - 2) * sh.w));
        place = omega (arith, h.place, h.rest, row_more sh.l1 s.b (sh.l2 * h.c) sh.w, parity-cells sh.l1 sh.w v.l1_low);
        rest = omega arith;
        some = width-pos sh v;
      }

  pub standing-below : sh.l2 - 2 ≤ s.b + 1
      → Standing sh (q + s.len) (record { at = s.at + s.len + 2 * sh.w + 2 * (sh.l1 * sh.w); len = (sh.l1 - 2) * sh.w; b = 0 })
  standing-below l =
      let last : s.b + 1 ≡ sh.l2 - 2 = omega (arith, h.second) in
      let rows : 0 + (sh.l2 - 2) * (h.c + 1) ≡ s.b + 1 + (sh.l2 - 2) * h.c = omega arith in
      let planes : 0 + sh.l2 * (h.c + 1) ≡ s.b + 1 + sh.l2 * h.c + 2 = omega (arith, v.l2_low) in
      record {
        c = h.c + 1;
        y = 0;
        second = rows-pos sh v;
        number =
            omega (
              arith,
              h.number,
              h.rest,
              one_more s.b ((sh.l2 - 2) * h.c) ((sh.l1 - 2) * sh.w),
              ap (λ (k : ℕ). k * ((sh.l1 - 2) * sh.w)) rows,
            );
        place =
            omega (
              arith,
              h.place,
              h.rest,
              plane-more sh.l1 s.b (sh.l2 * h.c) sh.w,
              parity-cells sh.l1 sh.w v.l1_low,
              ap (λ (k : ℕ). sh.l1 * k * sh.w) planes,
            );
        rest = omega arith;
        some = width-pos sh v;
      }

-- ---- the stretch that a walk of the data string comes to

pub record Ahead (sh : Shape) (q : ℕ) (s : Stretch) : Type 0 where
  pub standing : Standing sh q s
  pub below : q < capacity sh
  pub inside : s.at + s.len ≤ sh.w * cells sh

pub lies-ahead : (sh walked : Shape) (q : ℕ) (s : Stretch) → Valid sh → walked ≡ sh → Standing walked q s → q < capacity sh → Ahead sh q s
lies-ahead sh walked q s v e h l =
    let standing = subst (λ (k : Shape). Standing k q s) e h in
    record { standing = standing; below = l; inside = standing-inside sh q s v standing l }
