-- The 27 cells whose coordinates are each 0 or one of the last two. They are sent, since each is the first data cell or has a parity coordinate, and
-- they meet every line in none or three.
use mathlib.Core.Path.{◌≡◌, refl, sym, ap, ◌∙◌}
use mathlib.Core.Bool.{Bool, true, false, cond}
use mathlib.Core.Logic.{◌⊎◌, inl, inr, ⊎_elim}
use Prim.Native.Nat.{ℕ, zero, suc, ◌+◌, ◌-◌, ◌*◌, ◌/◌, ◌%◌, ◌≤◌, ◌<◌}
use native.Mathlib.Decide.{ℕ_discrete}
use native.Mathlib.Nat.{mod-lt}
use native.Mathlib.Omega.{arith}
use lib.Dec.{eqb, leb}
use borrow.Author.Tests.{eq-eqb, ne_eqb, leb-true, le-leb, lt-leb}
use Rattle.shape.specs.declared.Shape.{Shape}
use Rattle.shape.specs.Shapes.{Valid, both, cells, cell, IsLine, along, axis1, axis2, axis3}
use Rattle.shape.proofs.Geometry.{cell-coordinates, cell-lt-cells, first-coordinate, second-coordinate, third-coordinate, axis1-cell, axis2-cell, axis3-cell}
use Rattle.shape.proofs.Valid.{both-parts}
use Rattle.stopping.specs.Stopping.{number, on_line, Stopping, Largest}
use Rattle.stopping.proofs.Number.{number_in, number-none, number-pos}
use Rattle.stopping.proofs.Cube.{stopping-27}
use Rattle.pack.specs.declared.Header.{Header}
use Rattle.pack.specs.Packs.{unsent, sends}
use Rattle.pack.proofs.Sent.{parity-1, parity-2, parity-3, data-unsent}

-- ---- the ends of a line

-- place i of a line of length l is the first or one of the last two
unfoldable at_end : ℕ → ℕ → Bool
at_end l i = cond (eqb i 0) true (leb l (i + 2))

end-last : (l i : ℕ) → l ≤ i + 2 → at_end l i ≡ true
unfolding at_end
end-last l i h =
    elim (ℕ_discrete i 0) [
      | yes e ↦ rw (eq-eqb i 0 e)
      | no ne ↦ rw (ne_eqb i 0 ne) (le-leb l (i + 2) h)
    ]

end-cases : (l i : ℕ) → at_end l i ≡ true → (i ≡ 0) ⊎ (l ≤ i + 2)
unfolding at_end
end-cases l i e =
    elim (ℕ_discrete i 0) [
      | yes first ↦ inl first
      | no ne ↦ inr (leb-true l (i + 2) (rw (ne_eqb i 0 ne) at e))
    ]

-- all three are members, or none is
ends-meet : (P : ℕ → Bool) (l : ℕ) (rest : Bool) → 3 ≤ l → ((i : ℕ) → i < l → P i ≡ both rest (at_end l i)) → (number P l ≡ 0) ⊎ (3 ≤ number P l)
unfolding both at_end
ends-meet P l false low h = inl (number-none P l h)
ends-meet P zero true low h = absurd (omega arith)
ends-meet P (suc zero) true low h = absurd (omega arith)
ends-meet P (suc (suc n)) true low h =
    let first : P 0 ≡ true = h 0 (omega arith) in
    let last : P (suc n) ≡ true = h (suc n) (omega arith) ∙ end-last (suc (suc n)) (suc n) (omega arith) in
    let last-but-one : P n ≡ true = h n (omega arith) ∙ end-last (suc (suc n)) n (omega arith) in
    inr (omega (arith, number_in P (suc n) last, number_in P n last-but-one, number-pos P n 0 (omega arith) first))

-- ---- the cells

unfoldable corner : Shape → ℕ → Bool
corner sh n = both (at_end sh.l1 (n % sh.l1)) (both (at_end sh.l2 (n / sh.l1 % sh.l2)) (at_end sh.l3 (n / (sh.l1 * sh.l2))))

corner-at : (sh : Shape) (a b c : ℕ) → a < sh.l1 → b < sh.l2
    → corner sh (cell sh a b c) ≡ both (at_end sh.l1 a) (both (at_end sh.l2 b) (at_end sh.l3 c))
unfolding corner
corner-at sh a b c la lb = rw (first-coordinate sh a b c la, second-coordinate sh a b c la lb, third-coordinate sh a b c la lb)

both-comm : (x y : Bool) → both x y ≡ both y x
unfolding both
both-comm true true = refl
both-comm true false = refl
both-comm false true = refl
both-comm false false = refl

both-assoc : (x y z : Bool) → both x (both y z) ≡ both (both x y) z
unfolding both
both-assoc true y z = refl
both-assoc false y z = refl

both-swap : (x y z : Bool) → both x (both y z) ≡ both (both x z) y
both-swap x y z = ap (both x) (both-comm y z) ∙ both-assoc x z y

module _ (sh : Shape) (valid : Valid sh) where
  corners-meet : (first stride len : ℕ) → IsLine sh first stride len
      → (on_line (corner sh) first stride len ≡ 0) ⊎ (3 ≤ on_line (corner sh) first stride len)
  unfolding on_line
  corners-meet _ _ _ (along (axis1 b c lb lc)) =
      ends-meet _ sh.l1 (both (at_end sh.l2 b) (at_end sh.l3 c)) valid.l1_low
      (λ i l. ap (corner sh) (axis1-cell sh b c i) ∙ corner-at sh i b c l lb ∙ both-comm (at_end sh.l1 i) (both (at_end sh.l2 b) (at_end sh.l3 c)))
  corners-meet _ _ _ (along (axis2 a c la lc)) =
      ends-meet _ sh.l2 (both (at_end sh.l1 a) (at_end sh.l3 c)) valid.l2_low
      (λ i l. ap (corner sh) (axis2-cell sh a c i) ∙ corner-at sh a i c la l ∙ both-swap (at_end sh.l1 a) (at_end sh.l2 i) (at_end sh.l3 c))
  corners-meet _ _ _ (along (axis3 a b la lb)) =
      ends-meet _ sh.l3 (both (at_end sh.l1 a) (at_end sh.l2 b)) valid.l3_low
      (λ i l. ap (corner sh) (axis3-cell sh a b i) ∙ corner-at sh a b i la lb ∙ both-assoc (at_end sh.l1 a) (at_end sh.l2 b) (at_end sh.l3 i))

module _ (h : Header) (valid : Valid h.shape) (some : 1 ≤ h.used) where
  -- the first data cell, and cells with a parity coordinate
  first-sent : unsent h (cell h.shape 0 0 0) ≡ false
  first-sent =
      let rank : 0 + (h.shape.l1 - 2) * (0 + (h.shape.l2 - 2) * 0) ≡ 0 = omega arith in
      data-unsent h 0 0 0 (omega (arith, valid.l1_low)) (omega (arith, valid.l2_low)) (omega (arith, valid.l1_low)) (omega (arith, valid.l2_low))
      (omega (arith, valid.l3_low))
      ∙ ap (leb h.used) rank ∙ lt-leb h.used 0 (omega arith)

  cell-sent : (a b c : ℕ) → a < h.shape.l1 → b < h.shape.l2 → corner h.shape (cell h.shape a b c) ≡ true
      → unsent h (cell h.shape a b c) ≡ false
  cell-sent a b c la lb e =
      let (x, yz) = both-parts (at_end h.shape.l1 a) _ (sym (corner-at h.shape a b c la lb) ∙ e) in
      let (y, z) = both-parts (at_end h.shape.l2 b) (at_end h.shape.l3 c) yz in
      ⊎_elim
      (λ (p : a ≡ 0).
      ⊎_elim
      (λ (q : b ≡ 0).
      ⊎_elim (λ (r : c ≡ 0). rw (p, q, r) first-sent) (λ (r : h.shape.l3 ≤ c + 2). parity-3 h a b c la lb r) (end-cases h.shape.l3 c z))
      (λ (q : h.shape.l2 ≤ b + 2). parity-2 h a b c la lb q) (end-cases h.shape.l2 b y))
      (λ (p : h.shape.l1 ≤ a + 2). parity-1 h a b c la lb p) (end-cases h.shape.l1 a x)

  corner-sent : (n : ℕ) → corner h.shape n ≡ true → sends h n ≡ true
  unfolding sends
  corner-sent n e =
      let one : 0 < h.shape.l1 = omega (arith, valid.l1_low) in
      let two : 0 < h.shape.l2 = omega (arith, valid.l2_low) in
      let here = cell-coordinates h.shape n in
      let sent : unsent h n ≡ false =
      ap (unsent h) (sym here) ∙ cell-sent _ _ _ (mod-lt n one) (mod-lt _ two) (ap (corner h.shape) here ∙ e) in
      rw sent

  corners-stopping : Stopping (cells h.shape) (IsLine h.shape) (sends h) (corner h.shape)
  corners-stopping = record { inside = λ n l e. corner-sent n e; meets = corners-meet h.shape valid }

  -- so the largest stopping set of sent cells has 27 cells or more
  pub sent-27 : (K : ℕ → Bool) → Largest (cells h.shape) (IsLine h.shape) (sends h) K → 27 ≤ number K (cells h.shape)
  unfolding both at_end
  sent-27 K k =
      let one : 0 < h.shape.l1 = omega (arith, valid.l1_low) in
      let two : 0 < h.shape.l2 = omega (arith, valid.l2_low) in
      let inside = cell-lt-cells h.shape 0 0 0 one two (omega (arith, valid.l3_low)) in
      stopping-27 k.stopping _ inside (k.every (corner h.shape) corners-stopping _ inside (corner-at h.shape 0 0 0 one two))
