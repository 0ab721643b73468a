-- Before any packet is placed: a data string set from the first unsent cell on sets the unsent cells and no others. So it is with the bytes of a
-- cube, and with its flags, which are a cube of single bytes.
use mathlib.Core.Path.{◌≡◌, sym, ap, subst, ◌∙◌}
use mathlib.Core.Bool.{cond}
use mathlib.Core.List.{List}
use Prim.Native.Nat.{ℕ, ◌+◌, ◌-◌, ◌*◌, ◌≤◌, ◌<◌}
use native.Mathlib.Decide.{dec_lt, dec_le}
use native.Mathlib.Nat.{mod-lt, mul-pos, mul-one, mul_comm, mul-le-mul_right}
use native.Mathlib.Omega.{arith}
use borrow.Author.Tests.{le-leb, lt-leb}
use lib.ListN.{length, get_or, replicate, length-replicate, get_or-replicate}
use Rattle.answer.specs.Values.{Value}
use Rattle.span.specs.Span.{SetTo}
use Rattle.span.proofs.Stretches.{stretch-end}
use Rattle.shape.specs.declared.Shape.{Shape}
use Rattle.shape.specs.Shapes.{Valid, cells, cell, capacity, data_cell, data_cells}
use Rattle.shape.proofs.Geometry.{cell-coordinates, third-lt}
use Rattle.data.specs.Calls.{SetOutcome}
use Rattle.data.specs.Data.{layer, held_data, ParityKept}
use Rattle.data.proofs.Checks.{cube-done-checked}
use Rattle.data.proofs.Outcomes.{set-works}
use Rattle.data.proofs.Writing.{set-cell, set-cell-kept}
use Rattle.pack.specs.declared.Header.{Header}
use Rattle.pack.specs.Packs.{unsent}
use Rattle.pack.specs.Packets.{Source}
use Rattle.pack.proofs.Sent.{parity-1, parity-2, parity-3, data-unsent}
use Rattle.pack.proofs.Sound.{cells_le, capacity_le}
use Rattle.receiver.specs.Inner.Placing.{Marked}
use Rattle.receiver.proofs.Arrivals.{mark-none}

-- where the data cells in use end in the data string
pub used_le : (h : Header) → Valid h.shape → h.used ≤ data_cells h.shape → h.used * h.shape.w ≤ 268435456
unfolding capacity data_cells
used_le h v most =
    omega (arith, mul-le-mul_right h.shape.w most, mul_comm h.shape.w (data_cells h.shape), capacity_le h.shape v)

module _ (h : Header) (v : ℕ) (xs ys : List ℕ)
    (set : SetTo (held_data h.shape xs) (h.used * h.shape.w) (capacity h.shape - h.used * h.shape.w) v (held_data h.shape ys))
    (kept : ParityKept h.shape xs ys) (w : ℕ) (lw : w < h.shape.w) where
  -- what stands in cell n then
  abbrev Set : ℕ → Type 0
  Set n = layer h.shape ys w n ≡ cond (unsent h n) v (layer h.shape xs w n)

  data-cell-set : (a b c : ℕ) → a < h.shape.l1 - 2 → b < h.shape.l2 - 2 → c < h.shape.l3 - 2 → Set (cell h.shape a b c)
  data-cell-set a b c la lb lc =
      let rank : ℕ = a + (h.shape.l1 - 2) * (b + (h.shape.l2 - 2) * c) in
      let out = data-unsent h a b c (omega arith) (omega arith) la lb lc in
      elim (dec_le h.used rank) [
        | yes l ↦ rw (out, le-leb h.used rank l)
            (set-cell h.shape xs ys _ v set a b c w la lb lc lw (omega (arith, mul-le-mul_right h.shape.w l)))
        | no l ↦ let less : rank < h.used = omega arith in
            rw (out, lt-leb h.used rank less)
            (set-cell-kept h.shape xs ys _ v set a b c w la lb lc lw (omega (arith, stretch-end rank h.used h.shape.w less)))
      ]

  cell_set : (a b c : ℕ) → a < h.shape.l1 → b < h.shape.l2 → c < h.shape.l3 → Set (cell h.shape a b c)
  cell_set a b c la lb lc =
      elim (dec_lt a (h.shape.l1 - 2)) [
        | no past ↦ rw (parity-1 h a b c la lb (omega arith)) (kept.bytes a b c w la lb lc lw (λ (p : _). past p.0))
        | yes da ↦ elim (dec_lt b (h.shape.l2 - 2)) [
          | no past ↦ rw (parity-2 h a b c la lb (omega arith)) (kept.bytes a b c w la lb lc lw (λ (p : _). past p.1))
          | yes db ↦ elim (dec_lt c (h.shape.l3 - 2)) [
            | no past ↦ rw (parity-3 h a b c la lb (omega arith)) (kept.bytes a b c w la lb lc lw (λ (p : _). past p.2))
            | yes dc ↦ data-cell-set a b c da db dc
          ]
        ]
      ]

  pub unsent-set : Valid h.shape → (m : ℕ) → m < cells h.shape → layer h.shape ys w m ≡ cond (unsent h m) v (layer h.shape xs w m)
  unsent-set valid m l =
      let one : 0 < h.shape.l1 = omega (arith, valid.l1_low) in
      let two : 0 < h.shape.l2 = omega (arith, valid.l2_low) in
      subst Set (cell-coordinates h.shape m)
      (cell_set _ _ _ (mod-lt m one) (mod-lt _ two) (third-lt h.shape m (mul-pos one two) l))

-- ---- cells of single bytes

abbrev pub single : Shape → Shape
single sh = record { l1 = sh.l1; l2 = sh.l2; l3 = sh.l3; w = 1 }

single-cells : (sh : Shape) → cells (single sh) ≡ cells sh
unfolding cells
single-cells sh = λ i. cells sh

single-valid : (sh : Shape) → Valid sh → Valid (single sh)
single-valid sh v =
    record {
      l1_low = v.l1_low;
      l1_high = v.l1_high;
      l2_low = v.l2_low;
      l2_high = v.l2_high;
      l3_low = v.l3_low;
      l3_high = v.l3_high;
      w_low = omega arith;
      w_high = omega arith;
      volume = omega (arith, single-cells sh, cells_le sh v);
    }

-- the same cells are unsent
abbrev as_single : Header → Header
as_single h = record { shape = single h.shape; sizes = h.sizes; count = h.count; used = h.used }

single-unsent : (h : Header) (m : ℕ) → unsent (as_single h) m ≡ unsent h m
unfolding unsent data_cell
single-unsent h m = λ i. unsent h m

flags-set : (h : Header) (v : ℕ) (fs gs : List ℕ) → Valid h.shape
    → SetTo (held_data (single h.shape) fs) h.used (capacity (single h.shape) - h.used) v (held_data (single h.shape) gs)
    → ParityKept (single h.shape) fs gs → (m : ℕ) → m < cells h.shape → get_or gs m 0 ≡ cond (unsent h m) v (get_or fs m 0)
unfolding layer
flags-set h v fs gs valid set kept m l =
    let place : m * 1 + 0 ≡ m = omega arith in
    rw (place, single-unsent h m) at
    (unsent-set (as_single h) v fs gs (rw (mul-one h.used) set) kept 0 (omega arith) (single-valid h.shape valid) m
    (omega (arith, single-cells h.shape)))

-- ---- none yet

ones-size : (fs : List ℕ) (n : ℕ) → fs ≡ replicate n 1 → length fs ≡ n
ones-size fs n e = ap length e ∙ length-replicate n 1

ones-at : (fs : List ℕ) (n m : ℕ) → fs ≡ replicate n 1 → m < n → get_or fs m 0 ≡ 1
ones-at fs n m e l = ap (λ (es : List ℕ). get_or es m 0) e ∙ get_or-replicate n m 1 0 l

pub marked-none : (h : Header) (s : Source) → Valid h.shape → (xs fs ys gs : List ℕ) (a b : Value Unit) → length xs ≡ h.shape.w * cells h.shape
    → fs ≡ replicate (cells h.shape) 1 → SetOutcome (single h.shape) h.used 2 fs gs a
    → SetOutcome h.shape (h.used * h.shape.w) 0 xs ys b → Marked h s 0 ys gs
marked-none h s valid xs fs ys gs a b size missing flags bytes =
    let n : length fs ≡ cells h.shape = ones-size fs (cells h.shape) missing in
    let fits : length fs ≡ 1 * cells (single h.shape) = omega (arith, single-cells h.shape) in
    let (_, set₂, kept₂) = set-works (cube-done-checked (single h.shape) _ (single-valid h.shape valid) fits) flags in
    let (_, set, kept) = set-works (cube-done-checked h.shape _ valid size) bytes in
    record {
      cube_size = kept.size ∙ size;
      flags_size = kept₂.size ∙ n;
      flags = λ m l.
          flags-set h 2 fs gs valid set₂ kept₂ m l ∙ ap (cond (unsent h m) 2) (ones-at fs (cells h.shape) m missing l) ∙ sym (mark-none h s m);
      bytes = λ i l e w lw. absurd (omega arith);
      blank = λ m w l lw e. rw e at (unsent-set h 0 xs ys set kept w lw valid m l);
    }
