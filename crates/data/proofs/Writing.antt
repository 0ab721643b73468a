-- The data string written stretch by stretch. A byte of the cube that is none of the stretch stands in another row, or beside it in the same one: it
-- is another byte of the data string, or none. So the data string has the bytes written, and all else is kept.
use mathlib.Core.Path.{◌≡◌, refl, sym, ap, ap₂, ◌∙◌}
use mathlib.Core.List.{List, ◌++◌}
use mathlib.Core.Logic.{◌⊎◌, inl, inr, ⊎_elim}
use Prim.Native.Nat.{ℕ, ◌+◌, ◌-◌, ◌*◌, ◌/◌, ◌%◌, ◌≤◌, ◌<◌}
use native.Mathlib.Nat.{mul_comm, zero-add, add-mul, mul-le-mul_right}
use native.Mathlib.Decide.{dec_lt}
use native.Mathlib.Omega.{arith}
use lib.Arith.{digits_lt, digits_div, digits_mod}
use lib.ListN.{length, get_or, replicate, length-append, length-replicate, get_or-eq_default}
use Rattle.span.specs.Span.{Kept, Copied, Put, SetTo}
use Rattle.span.proofs.Keeping.{kept-beside, kept-join}
use Rattle.span.proofs.Putting.{set-put, put-put, put_all}
use Rattle.span.proofs.Setting.{set_at}
use Rattle.span.proofs.Stretches.{stretch-end}
use Rattle.shape.specs.declared.Shape.{Shape}
use Rattle.shape.specs.Shapes.{Valid, cells, capacity, cell}
use Rattle.data.specs.declared.place.Stretch.{Stretch}
use Rattle.data.specs.Data.{layer, data_of, held_data, ParityKept}
use Rattle.data.specs.Inner.Place.{Standing}
use Rattle.data.proofs.Cells.{cells_ext}
use Rattle.data.proofs.HeldData.{row-start, data_of-row, data-byte-lt, length-held_data, held_data-at, held_data-holds}
use Rattle.data.proofs.Placing.{standing-at, standing-byte, standing-plane}
use Rattle.data.proofs.Reading.{copied-append}

-- ---- rows of a cube

-- byte y of row n is none of the k bytes of row m from z on, if it is none of them where the rows are the same
beside : (n y m z k width : ℕ) → y < width → z + k ≤ width → (n ≡ m → (y < z) ⊎ (z + k ≤ y))
    → (n * width + y < m * width + z) ⊎ (m * width + z + k ≤ n * width + y)
beside n y m z k width ly lz same =
    elim (dec_lt n m) [
      | yes less ↦ inl (omega (arith, stretch-end n m width less))
      | no below ↦ elim (dec_lt m n) [
        | yes more ↦ inr (omega (arith, stretch-end m n width more))
        | no above ↦
            let e : n ≡ m = omega arith in
            let start : n * width ≡ m * width = ap (λ (i : ℕ). i * width) e in
            ⊎_elim (λ (l : y < z). inl (omega arith)) (λ (l : z + k ≤ y). inr (omega arith)) (same e)
      ]
    ]

-- bytes p and q of two strings that are cut into rows, in the same row
same_row : (n m width y z k p q : ℕ) → p ≡ n * width + y → q ≡ m * width + z → n ≡ m → (p < q) ⊎ (q + k ≤ p) → (y < z) ⊎ (z + k ≤ y)
same_row n m width y z k p q ep eq e o =
    let start : n * width ≡ m * width = ap (λ (i : ℕ). i * width) e in
    ⊎_elim (λ (l : p < q). inl (omega arith)) (λ (l : q + k ≤ p). inr (omega arith)) o

-- the number of a row determines its coordinates
row-coordinates : (l b c b' c' : ℕ) → b < l → b' < l → b + l * c ≡ b' + l * c' → (b ≡ b') × (c ≡ c')
row-coordinates l b c b' c' lb lb' e =
    let same : c * l + b ≡ c' * l + b' = omega (arith, mul_comm l c, mul_comm l c') in (
      sym (digits_mod c lb) ∙ ap (λ (n : ℕ). n % l) same ∙ digits_mod c' lb',
      sym (digits_div c lb) ∙ ap (λ (n : ℕ). n / l) same ∙ digits_div c' lb',
    )

-- ---- a stretch changed

module _ (sh : Shape) (v : Valid sh) (q k : ℕ) (s : Stretch) (mid after : List ℕ) (h : Standing sh q s) (le : k ≤ s.len)
    (kept : Kept mid s.at k after) where
  -- byte y of row (b,c) of the cube
  row_kept : (b c y : ℕ) → b < sh.l2 → y < sh.l1 * sh.w → (b ≡ s.b → c ≡ h.c → (y < h.y) ⊎ (h.y + k ≤ y))
      → get_or after (sh.l1 * (b + sh.l2 * c) * sh.w + y) 0 ≡ get_or mid (sh.l1 * (b + sh.l2 * c) * sh.w + y) 0
  row_kept b c y lb ly other =
      let cells : sh.l1 - 2 ≤ sh.l1 = omega arith in
      let row : h.y + k ≤ sh.l1 * sh.w = omega (arith, h.rest, mul-le-mul_right sh.w cells) in
      kept-beside kept _
      (rw (h.place, ← row-start (b + sh.l2 * c) sh.l1 sh.w, ← row-start (s.b + sh.l2 * h.c) sh.l1 sh.w)
      (beside (b + sh.l2 * c) y (s.b + sh.l2 * h.c) h.y k (sh.l1 * sh.w) ly row
      (λ e. let (eb, ec) = row-coordinates sh.l2 b c s.b h.c lb (omega (arith, h.second)) e in other eb ec)))

  -- another byte of the data string
  data-kept : (p : ℕ) → (p < q) ⊎ (q + k ≤ p) → data_of sh after p ≡ data_of sh mid p
  data-kept p o =
      let width : ℕ = (sh.l1 - 2) * sh.w in
      let b : ℕ = p / width % (sh.l2 - 2) in
      let at = standing-at sh p v in
      let c : ℕ = at.c in
      let y : ℕ = at.y in
      let here : y < width = omega (arith, at.rest, at.some) in
      let cells : sh.l1 - 2 ≤ sh.l1 = omega arith in
      let row : y < sh.l1 * sh.w = omega (arith, mul-le-mul_right sh.w cells) in
      let other : b ≡ s.b → c ≡ h.c → (y < h.y) ⊎ (h.y + k ≤ y) =
      λ eb ec.
      same_row (b + (sh.l2 - 2) * c) (s.b + (sh.l2 - 2) * h.c) width y h.y k p q at.number h.number
      (ap₂ (λ (i j : ℕ). i + (sh.l2 - 2) * j) eb ec) o
      in
      ap (data_of sh after) at.number ∙ data_of-row sh after b c y v.w_low at.second here
      ∙ row_kept b c y (omega (arith, at.second)) row other
      ∙ sym (ap (data_of sh mid) at.number ∙ data_of-row sh mid b c y v.w_low at.second here)

  held_kept : (p : ℕ) → (p < q) ⊎ (q + k ≤ p) → get_or (held_data sh after) p 0 ≡ get_or (held_data sh mid) p 0
  held_kept p o =
      elim (dec_lt p (capacity sh)) [
        | yes l ↦ held_data-at sh after p l ∙ data-kept p o ∙ sym (held_data-at sh mid p l)
        | no l ↦
            get_or-eq_default (held_data sh after) 0 (omega (arith, length-held_data sh after))
            ∙ sym (get_or-eq_default (held_data sh mid) 0 (omega (arith, length-held_data sh mid)))
      ]

  pub stretch-held : Kept (held_data sh mid) q k (held_data sh after)
  stretch-held =
      record {
        size = length-held_data sh after ∙ sym (length-held_data sh mid);
        below = λ p l. held_kept p (inl l);
        above = λ p l. held_kept p (inr l);
      }

  -- no byte of another cell
  pub stretch-parity : q < capacity sh → ParityKept sh mid after
  unfolding layer cell
  stretch-parity less =
      record {
        size = kept.size;
        bytes = λ a b c w la lb lc lw no-data.
            let start = sh.l1 * (b + sh.l2 * c) in
            let byte : (a + start) * sh.w + w ≡ start * sh.w + (a * sh.w + w) = omega (arith, add-mul a start sh.w) in
            let other : b ≡ s.b → c ≡ h.c → (a * sh.w + w < h.y) ⊎ (h.y + k ≤ a * sh.w + w) =
            λ eb ec. elim (dec_lt a (sh.l1 - 2)) [
              | yes l ↦ absurd (no-data (l, rw eb h.second, rw ec (standing-plane sh q s v h less)))
              | no l ↦ let past : sh.l1 - 2 ≤ a = omega arith in inr (omega (arith, h.rest, mul-le-mul_right sh.w past))
            ]
            in
            ap (λ (p : ℕ). get_or after p 0) byte ∙ row_kept b c (a * sh.w + w) lb (digits_lt la lw) other
            ∙ sym (ap (λ (p : ℕ). get_or mid p 0) byte);
      }

-- ---- what is written

pub parity-kept-none : (sh : Shape) (xs : List ℕ) → ParityKept sh xs xs
parity-kept-none sh xs = record { size = refl; bytes = λ a b c w la lb lc lw no-data. refl }

pub parity-kept-trans : {sh : Shape} {before mid after : List ℕ} → ParityKept sh before mid → ParityKept sh mid after → ParityKept sh before after
parity-kept-trans one two =
    record {
      size = two.size ∙ one.size;
      bytes = λ a b c w la lb lc lw no-data. two.bytes a b c w la lb lc lw no-data ∙ one.bytes a b c w la lb lc lw no-data;
    }

-- k bytes more
set-append : {before mid after : List ℕ} {at n to k v : ℕ} (m : ℕ) → to ≡ at + n → m ≡ n + k → SetTo before at n v mid → SetTo mid to k v after
    → SetTo before at m v after
set-append {before} {mid} {after} {at} {n} {to} {k} m e size h g =
    record {
      bytes = λ i l. elim (dec_lt i n) [
        | yes less ↦ g.kept.below (at + i) (omega arith) ∙ h.bytes i less
        | no more ↦
            let place : to + (i - n) ≡ at + i = omega arith in
            ap (λ (p : ℕ). get_or after p 0) (sym place) ∙ g.bytes (i - n) (omega arith)
      ];
      kept = kept-join at m h.kept g.kept (omega arith, omega arith, omega arith, omega arith);
    }

module _ (sh : Shape) (valid : Valid sh) (s : Stretch) (before mid after : List ℕ) where
  stretch-byte : (q i : ℕ) → Standing sh q s → i < s.len → q + i < capacity sh → get_or (held_data sh after) (q + i) 0 ≡ get_or after (s.at + i) 0
  stretch-byte q i h l less = held_data-at sh after (q + i) less ∙ standing-byte sh q s valid h after i l

  -- k bytes copied to a stretch
  pub write-more : (src : List ℕ) (from to n k : ℕ) → Standing sh (to + n) s → k ≤ s.len → to + n + k ≤ capacity sh
      → Copied src from (held_data sh before) to n (held_data sh mid) → Copied src (from + n) mid s.at k after
      → Copied src from (held_data sh before) to (n + k) (held_data sh after)
  write-more src from to n k h le room done copy =
      copied-append {xs = src} {at = from + n} done
      (record {
        copied = λ i l. stretch-byte (to + n) i h (omega arith) (omega arith) ∙ copy.copied i l;
        kept = stretch-held sh valid (to + n) k s mid after h le copy.kept;
      })
      (λ i l. refl)

  -- k bytes of a stretch set
  pub set_more : (from q k v : ℕ) → Standing sh q s → k ≤ s.len → from ≤ q → q + k ≤ capacity sh
      → SetTo (held_data sh before) from (q - from) v (held_data sh mid) → SetTo mid s.at k v after
      → SetTo (held_data sh before) from (q + k - from) v (held_data sh after)
  set_more from q k v h le low room done set =
      set-append (q + k - from) (omega arith) (omega arith) done
      (record {
        bytes = λ i l. stretch-byte q i h (omega arith) (omega arith) ∙ set.bytes i l;
        kept = stretch-held sh valid q k s mid after h le set.kept;
      })

-- ---- what a caller learns

-- the data string and what is kept determine the cube
pub data-determined : (sh : Shape) (before xs ys : List ℕ) → Valid sh → length before ≡ sh.w * cells sh → held_data sh xs ≡ held_data sh ys
    → ParityKept sh before xs → ParityKept sh before ys → xs ≡ ys
data-determined sh before xs ys v size e h g =
    cells_ext sh xs ys (omega (arith, v.l1_low)) (omega (arith, v.l2_low)) v.w_low (h.size ∙ size) (g.size ∙ size) byte
  where
    byte : (a b c w : ℕ) → a < sh.l1 → b < sh.l2 → c < sh.l3 → w < sh.w → layer sh xs w (cell sh a b c) ≡ layer sh ys w (cell sh a b c)
    byte a b c w la lb lc lw =
        elim (dec_lt a (sh.l1 - 2)) [
          | yes da ↦ elim (dec_lt b (sh.l2 - 2)) [
            | yes db ↦ elim (dec_lt c (sh.l3 - 2)) [
              | yes dc ↦
                  sym ((held_data-holds sh xs).bytes a b c w da db dc lw) ∙ ap (λ (l : List ℕ). get_or l ((a + (sh.l1 - 2) * (b + (sh.l2 - 2) * c)) * sh.w + w) 0) e
                  ∙ (held_data-holds sh ys).bytes a b c w da db dc lw
              | no n ↦ kept (λ d. n d.2)
            ]
            | no n ↦ kept (λ d. n d.1)
          ]
          | no n ↦ kept (λ d. n d.0)
        ]
      where
        kept : ((a < sh.l1 - 2) × (b < sh.l2 - 2) × (c < sh.l3 - 2) → ⊥) → layer sh xs w (cell sh a b c) ≡ layer sh ys w (cell sh a b c)
        kept no-data = h.bytes a b c w la lb lc lw no-data ∙ sym (g.bytes a b c w la lb lc lw no-data)

-- a data string written whole: a first list, a second behind it, and one value up to the end
pub data-built : (sh : Shape) (start one two after head body : List ℕ) (v : ℕ) → length head + length body ≤ capacity sh
    → Put (held_data sh start) 0 head (held_data sh one) → Put (held_data sh one) (length head) body (held_data sh two)
    → SetTo (held_data sh two) (length head + length body) (capacity sh - (length head + length body)) v (held_data sh after)
    → held_data sh after ≡ head ++ (body ++ replicate (capacity sh - (length head + length body)) v)
data-built sh start one two after head body v fits first second rest =
    let n : ℕ = capacity sh - (length head + length body) in
    put_all (put-put first (rw (zero-add (length head)) (put-put second (set-put rest))))
    (length-append head (body ++ replicate n v) ∙ ap (λ (k : ℕ). length head + k) (length-append body (replicate n v) ∙ ap (λ (k : ℕ). length body + k) (length-replicate n v))
    ∙ omega (arith, length-held_data sh start))

-- byte w of data cell (a,b,c) of a cube whose data string is set from `from` on
module _ (sh : Shape) (before after : List ℕ) (from v : ℕ) (set : SetTo (held_data sh before) from (capacity sh - from) v (held_data sh after))
    (a b c w : ℕ) (la : a < sh.l1 - 2) (lb : b < sh.l2 - 2) (lc : c < sh.l3 - 2) (lw : w < sh.w) where
  pub set-cell : from ≤ (a + (sh.l1 - 2) * (b + (sh.l2 - 2) * c)) * sh.w + w → layer sh after w (cell sh a b c) ≡ v
  set-cell low =
      sym ((held_data-holds sh after).bytes a b c w la lb lc lw)
      ∙ set_at set _ low (omega (arith, data-byte-lt sh a b c w la lb lc lw))

  pub set-cell-kept : (a + (sh.l1 - 2) * (b + (sh.l2 - 2) * c)) * sh.w + w < from → layer sh after w (cell sh a b c) ≡ layer sh before w (cell sh a b c)
  set-cell-kept less =
      sym ((held_data-holds sh after).bytes a b c w la lb lc lw) ∙ set.kept.below _ less ∙ (held_data-holds sh before).bytes a b c w la lb lc lw
