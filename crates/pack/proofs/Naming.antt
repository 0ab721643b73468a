-- Packets as they stand in a pack, and those that name a cell: what the calls answer, and what a pack that was read needs of them.
use Rattle.std.specs.Prelude.{Option, Some, None, MatchOption}
use Rattle.std.specs.Option.{option_or, unwrap_or}
use mathlib.Core.Path.{◌≡◌, refl, sym, ap, subst, ◌∙◌}
use mathlib.Core.Bool.{Bool, true, false, cond, false≢true, true≢false}
use mathlib.Core.List.{List}
use Prim.Native.Nat.{ℕ, ◌+◌, ◌*◌, ◌≤◌, ◌<◌}
use native.Mathlib.Omega.{arith}
use lib.Dec.{leb, ltb}
use lib.ListN.{length, get_or}
use borrow.Author.Tests.{leb-true, le-leb, ltb-true, lt-ltb, not-true}
use Rattle.answer.proofs.Tuples.{some-four}
use Rattle.std.proofs.lemmas.Option.{some_pair_parts}
use Rattle.answer.specs.Values.{passes}
use Rattle.shape.specs.declared.Shape.{Shape}
use Rattle.shape.specs.Shapes.{both, cells, cell}
use Rattle.shape.proofs.Valid.{both-parts, both_true}
use Rattle.shape.proofs.Geometry.{cell-lt-cells}
use Rattle.span.proofs.Stretches.{stretch-end}
use Rattle.pack.specs.declared.Section.{Section}
use Rattle.pack.specs.declared.Header.{Header}
use Rattle.pack.specs.Packs.{unsent, sends}
use Rattle.pack.specs.Reading.{packet_size, air_of}
use Rattle.pack.specs.Packets.{packet_at, packet_in, source, Stands, PartsOutcome, standing, not_standing, OnCube, InRange, Named, PacketOutcome, named, unnamed, FirstOutside}
use Rattle.pack.specs.Inner.Packets.{within_limits, named_by, FirstOff, FirstUnsent}
use Rattle.pack.proofs.Sound.{air-sound}

-- ---- the limits of a packet

pub record Limits (sh : Shape) : Type 0 where
  pub l1_high : sh.l1 ≤ 255
  pub l2_high : sh.l2 ≤ 255
  pub w_high : sh.w ≤ 1024

pub limits-parts : (sh : Shape) → within_limits sh ≡ true → Limits sh
unfolding within_limits
limits-parts sh t =
    let (a, bc) = both-parts (leb sh.l1 255) _ t in
    let (b, c) = both-parts (leb sh.l2 255) (leb sh.w 1024) bc in
    record { l1_high = leb-true _ _ a; l2_high = leb-true _ _ b; w_high = leb-true _ _ c }

pub limits-true : (sh : Shape) → Limits sh → within_limits sh ≡ true
unfolding within_limits
limits-true sh l = both_true _ _ (le-leb _ _ l.l1_high) (both_true _ _ (le-leb _ _ l.l2_high) (le-leb _ _ l.w_high))

-- ---- the parts of a packet

module _ (p : List ℕ) (h : Header) (s : Section) (i : ℕ) where
  pub parts-beyond-limits : within_limits h.shape ≡ false → PartsOutcome p h s i None
  parts-beyond-limits t =
      not_standing (λ (n : Stands p h s i).
      false≢true (sym t ∙ limits-true h.shape (record { l1_high = n.l1_high; l2_high = n.l2_high; w_high = n.w_high })))

  pub parts-beyond-pack : length p < s.at + i * (3 + h.shape.w) + (3 + h.shape.w) → PartsOutcome p h s i None
  unfolding packet_at packet_size
  parts-beyond-pack l =
      not_standing (λ (n : Stands p h s i).
      let m : s.at + i * (3 + h.shape.w) + (3 + h.shape.w) ≤ length p = n.inside in omega arith)

  pub parts-stand : within_limits h.shape ≡ true → s.at + i * (3 + h.shape.w) + (3 + h.shape.w) ≤ length p
      → PartsOutcome p h s i
      (Some (
        get_or p (s.at + i * (3 + h.shape.w)) 0,
        get_or p (s.at + i * (3 + h.shape.w) + 1) 0,
        get_or p (s.at + i * (3 + h.shape.w) + 2) 0,
        s.at + i * (3 + h.shape.w) + 3,
      ))
  unfolding packet_at packet_size packet_in
  parts-stand t inside =
      let l = limits-parts h.shape t in
      standing (record { l1_high = l.l1_high; l2_high = l.l2_high; w_high = l.w_high; inside = inside })

  -- a packet that stands in its pack is answered by its parts
  pub parts-told : (r : Option (ℕ × ℕ × ℕ × ℕ)) → PartsOutcome p h s i r → Stands p h s i
      → r ≡ Some ((packet_in p h s i).a, (packet_in p h s i).b, (packet_in p h s i).c, packet_at h s i + 3)
  parts-told r (standing n) m = refl
  parts-told r (not_standing never) m = absurd (never m)

-- ---- the cell of a packet

-- the coordinates as one test
unfoldable coordinates : List ℕ → Header → Section → ℕ → Bool
coordinates p h s i =
    both (ltb (get_or p (packet_at h s i) 0) h.shape.l1)
    (both (ltb (get_or p (packet_at h s i + 1) 0) h.shape.l2) (ltb (get_or p (packet_at h s i + 2) 0) h.shape.l3))

module _ (p : List ℕ) (h : Header) (s : Section) (i : ℕ) where
  -- what does not stand in the pack names no cell
  pub parts-absent : (r : Option (ℕ × ℕ × ℕ × ℕ)) → PartsOutcome p h s i r → r ≡ None → PacketOutcome p h s i None
  parts-absent r (standing n) e = let z : ◌≡◌ {A = ℕ} 0 1 = cc in absurd (omega arith)
  parts-absent r (not_standing never) e = unnamed (λ (n : OnCube p h s i). never n.stands)

  tested : Stands p h s i → (t : Bool) → coordinates p h s i ≡ t
      → PacketOutcome p h s i (cond t (Some ((source p h s).place i, packet_at h s i + 3)) None)
  unfolding coordinates
  tested n true e =
      let (a, bc) = both-parts (ltb (get_or p (packet_at h s i) 0) h.shape.l1) _ e in
      let (b, c) = both-parts (ltb (get_or p (packet_at h s i + 1) 0) h.shape.l2) (ltb (get_or p (packet_at h s i + 2) 0) h.shape.l3) bc in
      named (record { stands = n; first = ltb-true _ _ a; second = ltb-true _ _ b; third = ltb-true _ _ c })
  tested n false e =
      unnamed (λ (m : OnCube p h s i).
      false≢true (sym e ∙ both_true _ _ (lt-ltb _ _ m.first) (both_true _ _ (lt-ltb _ _ m.second) (lt-ltb _ _ m.third))))

  -- the parts of a packet name its cell, where they are below their lengths
  pub parts-named : (a b c at : ℕ) (q : Option (ℕ × ℕ × ℕ × ℕ)) (r : Option (ℕ × ℕ)) → PartsOutcome p h s i q → q ≡ Some (a, b, c, at)
      → r ≡ named_by h.shape a b c at → PacketOutcome p h s i r
  unfolding named_by packet_in source coordinates
  parts-named a b c at q r (standing n) e f =
      let (first, second, third, behind) = some-four _ a _ b _ c _ at e in
      rw (f, ← first, ← second, ← third, ← behind) (tested n (coordinates p h s i) refl)
  parts-named a b c at q r (not_standing never) e f = let z : ◌≡◌ {A = ℕ} 0 1 = cc in absurd (omega arith)

  -- a packet on the cube passes check 11 where its cell is sent
  pub on-cube : Named p h s i → OnCube p h s i
  on-cube n = record { stands = n.stands; first = n.range.first; second = n.range.second; third = n.range.third }

  pub cube-sent : OnCube p h s i → unsent h ((source p h s).place i) ≡ false → Named p h s i
  unfolding sends
  cube-sent n e = record { stands = n.stands; range = record { first = n.first; second = n.second; third = n.third; sent = rw e } }

  -- the parts of a packet on the cube: whether its cell is sent
  pub parts-unsent : (a b c at : ℕ) (q : Option (ℕ × ℕ × ℕ × ℕ)) (r : Bool) → PartsOutcome p h s i q → q ≡ Some (a, b, c, at)
      → r ≡ unsent h (cell h.shape a b c) → r ≡ unsent h ((source p h s).place i)
  unfolding packet_in source
  parts-unsent a b c at q r (standing n) e f =
      let (first, second, third, _) = some-four _ a _ b _ c _ at e in
      rw (← first, ← second, ← third) at f
  parts-unsent a b c at q r (not_standing never) e f = let z : ◌≡◌ {A = ℕ} 0 1 = cc in absurd (omega arith)

  pub parts-range : (a b c at : ℕ) (q : Option (ℕ × ℕ × ℕ × ℕ)) → PartsOutcome p h s i q → q ≡ Some (a, b, c, at) → OnCube p h s i
      → (a < h.shape.l1) × (b < h.shape.l2) × (c < h.shape.l3)
  unfolding packet_in
  parts-range a b c at q (standing n) e m =
      let (first, second, third, _) = some-four _ a _ b _ c _ at e in
      rw (← first, ← second, ← third) (m.first, m.second, m.third)
  parts-range a b c at q (not_standing never) e m = absurd (never m.stands)

-- ---- for callers

-- all packets of a pack that was read stand in it: they name a cell where they pass check 11
pub air-named : (p : List ℕ) (h : Header) (s : Section) (i : ℕ) → air_of p ≡ passes (h, s) → i < s.count
    → InRange p h s i → Named p h s i
unfolding packet_at
air-named p h s i e l r =
    let sound = air-sound p h s e in
    let v = sound.header.valid in
    record {
      stands = record {
        l1_high = v.l1_high;
        l2_high = v.l2_high;
        w_high = v.w_high;
        inside = omega (arith, sound.ends, stretch-end i s.count (packet_size h) l);
      };
      range = r;
    }

-- the cell that a packet in range names is one of the cube's
pub place_lt : (p : List ℕ) (h : Header) (s : Section) (i : ℕ) → InRange p h s i → (source p h s).place i < cells h.shape
unfolding source
place_lt p h s i r = cell-lt-cells h.shape _ _ _ r.first r.second r.third

-- what a caller learns of a packet that is answered: the cell that it names, and where its bytes stand
pub record Told (p : List ℕ) (h : Header) (s : Section) (i n from : ℕ) : Type 0 where
  pub cell : n ≡ (source p h s).place i
  pub byte : (w : ℕ) → get_or p (from + w) 0 ≡ (source p h s).byte i w
  pub inside : from + h.shape.w ≤ length p

pub packet-told : (p : List ℕ) (h : Header) (s : Section) (i n from : ℕ) (r : Option (ℕ × ℕ)) → PacketOutcome p h s i r → r ≡ Some (n, from)
    → Told p h s i n from
unfolding source packet_size
packet-told p h s i n from r (named m) e =
    let (same, begins) = some_pair_parts _ n _ from e in
    record { cell = sym same; byte = λ w. ap (λ (k : ℕ). get_or p (k + w) 0) (sym begins); inside = omega (arith, m.stands.inside) }
packet-told p h s i n from r (unnamed never) e = let z : ◌≡◌ {A = ℕ} 0 1 = cc in absurd (omega arith)

-- the cell that it names is sent
pub place-sent : (p : List ℕ) (h : Header) (s : Section) (i : ℕ) → InRange p h s i → unsent h ((source p h s).place i) ≡ false
unfolding sends
place-sent p h s i r = not-true (unsent h ((source p h s).place i)) r.sent

-- ---- check 11

-- with every cell sent the coordinates decide
pub off-outside : (p : List ℕ) (h : Header) (s : Section) (r : ℕ) → FirstOff p h s r
    → ((n : ℕ) → n < cells h.shape → unsent h n ≡ false) → FirstOutside p h s r
unfolding source
off-outside p h s r off all =
    record {
      bound = off.bound;
      before = λ i l.
          let m = off.before i l in
          cube-sent p h s i m (all _ (cell-lt-cells h.shape _ _ _ m.first m.second m.third));
      here = λ l n. off.here l (on-cube p h s r n);
    }

-- the first packet for a cell that is not sent comes before the first off the cube
pub unsent-outside : (p : List ℕ) (h : Header) (s : Section) (i r : ℕ) → FirstOff p h s r → i < r
    → ((j : ℕ) → j < i → unsent h ((source p h s).place j) ≡ false) → unsent h ((source p h s).place i) ≡ true → FirstOutside p h s i
unfolding sends
unsent-outside p h s i r off l before e =
    record {
      bound = omega (arith, off.bound);
      before = λ j less. cube-sent p h s j (off.before j (omega arith)) (before j less);
      here = λ _ n. true≢false (sym e ∙ not-true (unsent h ((source p h s).place i)) n.range.sent);
    }

pub none-unsent : (p : List ℕ) (h : Header) (s : Section) (r : ℕ) → FirstOff p h s r
    → ((j : ℕ) → j < r → unsent h ((source p h s).place j) ≡ false) → FirstOutside p h s r
none-unsent p h s r off before =
    record {
      bound = off.bound;
      before = λ j less. cube-sent p h s j (off.before j less) (before j less);
      here = λ l n. off.here l (on-cube p h s r n);
    }

-- ---- its answer, off being what a look at the coordinates answers

-- the first packet that is asked for, or none before the count
abbrev pub First : Section → (ℕ → Type 0) → Option ℕ → Type 0
First s P r = MatchOption r (P s.count) (λ i. P i × (i < s.count))

-- with every cell sent it is the answer
pub outside-sent : (p : List ℕ) (h : Header) (s : Section) (off : Option ℕ) → First s (FirstOff p h s) off
    → ((n : ℕ) → n < cells h.shape → unsent h n ≡ false) → First s (FirstOutside p h s) off
outside-sent p h s None first all = off-outside p h s s.count first all
outside-sent p h s (Some i) first all = (off-outside p h s i first.0 all, first.1)

-- the packets before it name cells
pub off-before : (p : List ℕ) (h : Header) (s : Section) (off : Option ℕ) → First s (FirstOff p h s) off
    → (i : ℕ) → i < unwrap_or off s.count → OnCube p h s i
off-before p h s None first = first.before
off-before p h s (Some i) first = first.0.before

-- of these the first whose cell is not sent comes before it
pub outside-unsent : (p : List ℕ) (h : Header) (s : Section) (off u : Option ℕ) → First s (FirstOff p h s) off
    → FirstUnsent p h s (unwrap_or off s.count) u → First s (FirstOutside p h s) (option_or u off)
outside-unsent p h s None None first none = none-unsent p h s s.count first none
outside-unsent p h s (Some i) None first none = (none-unsent p h s i first.0 none, first.1)
outside-unsent p h s None (Some i) first (l, here, before) = (unsent-outside p h s i s.count first l before here, l)
outside-unsent p h s (Some k) (Some i) first (l, here, before) = (unsent-outside p h s i k first.0 l before here, omega (arith, first.1))

-- what a caller learns of it
pub outside-some : (p : List ℕ) (h : Header) (s : Section) (r : Option ℕ) (i : ℕ) → First s (FirstOutside p h s) r → r ≡ Some i
    → FirstOutside p h s i × (i < s.count)
outside-some p h s r i o e = subst (First s (FirstOutside p h s)) e o

pub outside-none : (p : List ℕ) (h : Header) (s : Section) (r : Option ℕ) → First s (FirstOutside p h s) r → r ≡ None
    → FirstOutside p h s s.count
outside-none p h s r o e = subst (First s (FirstOutside p h s)) e o
