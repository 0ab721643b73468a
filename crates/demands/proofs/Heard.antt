-- A list of packets for a code cube's cells, heard as an air pack: every packet is in range and names its cell, and where the copies of a cell are
-- all equal they have the cube's bytes.
use mathlib.Core.Path.{◌≡◌, sym, ap, ◌∙◌}
use mathlib.Core.Bool.{true, false}
use mathlib.Core.List.{List}
use Prim.Native.Nat.{ℕ, ◌*◌, ◌<◌}
use native.Mathlib.Nat.{mod-lt, mul-pos}
use native.Mathlib.Omega.{arith}
use lib.ListN.{length, get_or, drop}
use lib.Seq.{get_or-take, get_or-drop}
use Rattle.shape.specs.declared.Shape.{Shape}
use Rattle.shape.specs.Shapes.{Valid, cells}
use Rattle.shape.proofs.Geometry.{cell-coordinates, third-lt}
use Rattle.data.specs.Data.{layer}
use Rattle.pack.specs.declared.Header.{Header}
use Rattle.pack.specs.declared.Section.{Section}
use Rattle.pack.specs.Packs.{Packet, unsent, sends, air_pack, packet_of}
use Rattle.pack.specs.Packets.{packet_no, source, source_of, InRange}
use Rattle.pack.proofs.Written.{Sized, Carries, carries-place, packet_of-length}
use Rattle.receiver.specs.Placing.{agreed}
use Rattle.receiver.proofs.Copies.{equal-conflict}
use Rattle.demands.specs.Demand3.{in_conflict, CopyOf}

-- ---- a packet of a cube

-- k is the packet of a cell of x
abbrev pub OfCell : Shape → List ℕ → Packet → Type 0
OfCell sh x k = (n : ℕ) × (n < cells sh) × (k ≡ packet_of sh x n)

module _ (sh : Shape) (x : List ℕ) (ps : List Packet) (i : ℕ) (of : OfCell sh x (packet_no ps i)) where
  place_of : (source_of sh ps).place i ≡ of.0
  unfolding source_of packet_of
  place_of = rw of.2 (cell-coordinates sh of.0)

  pub byte_of : (w : ℕ) → w < sh.w → (source_of sh ps).byte i w ≡ layer sh x w ((source_of sh ps).place i)
  unfolding source_of packet_of layer
  byte_of w b =
      ap (λ (k : Packet). get_or k.bytes w 0) of.2 ∙ get_or-take sh.w (drop (of.0 * sh.w) x) w 0 b
      ∙ get_or-drop (of.0 * sh.w) x w 0 ∙ ap (layer sh x w) (sym place_of)

-- copies of a cell that are all packets of x do not differ
pub none_differ : (sh : Shape) (x : List ℕ) (ps : List Packet) (m : ℕ)
    → ((i : ℕ) → i < length ps → (source_of sh ps).place i ≡ m → OfCell sh x (packet_no ps i)) → in_conflict sh ps m ≡ false
unfolding in_conflict
none_differ sh x ps m all =
    equal-conflict sh (source_of sh ps) (length ps) m
    (λ i j l r p q w b.
    byte_of sh x ps i (all i l p) w b ∙ ap (layer sh x w) (p ∙ sym q) ∙ sym (byte_of sh x ps j (all j r q) w b))

-- ---- a list of copies of cells

-- a packet is a copy of itself
pub same_copy : {k g : Packet} → g ≡ k → CopyOf k g
same_copy e =
    record {
      first = ap (λ (p : Packet). p.a) e;
      second = ap (λ (p : Packet). p.b) e;
      third = ap (λ (p : Packet). p.c) e;
      size = ap (λ (p : Packet). length p.bytes) e;
    }

-- the cell that a copy names
pub copy-place : (sh : Shape) (x : List ℕ) (ps : List Packet) (i n : ℕ) → CopyOf (packet_of sh x n) (packet_no ps i) → (source_of sh ps).place i ≡ n
unfolding source_of packet_of
copy-place sh x ps i n copy = rw (copy.first, copy.second, copy.third) (cell-coordinates sh n)

pub record Copies (sh : Shape) (x : List ℕ) (ps : List Packet) : Type 0 where
  pub cell : (i : ℕ) → i < length ps → (n : ℕ) × (n < cells sh) × CopyOf (packet_of sh x n) (packet_no ps i)
  pub known : (i : ℕ) → i < length ps → agreed sh (source_of sh ps) (length ps) ((source_of sh ps).place i) ≡ true → OfCell sh x (packet_no ps i)

module _ (sh : Shape) (x : List ℕ) (ps : List Packet) (size : length x ≡ sh.w * cells sh) (each : Copies sh x ps) where
  pub each-sized : Sized sh.w ps
  each-sized i l = let (n, h, copy) = each.cell i l in copy.size ∙ packet_of-length sh x size n h

  -- the cell that packet i names
  module _ (i : ℕ) (l : i < length ps) where
    pub named-lt : (source_of sh ps).place i < cells sh
    named-lt = let (n, h, copy) = each.cell i l in rw (copy-place sh x ps i n copy) h

-- as the receiver reads them
module _ (h : Header) (x : List ℕ) (ps : List Packet) (each : Copies h.shape x ps) (c : Section) (carries : Carries (air_pack h ps) h c ps) (i : ℕ)
    (l : i < length ps) where
  pub heard-place : (source (air_pack h ps) h c).place i ≡ (source_of h.shape ps).place i
  heard-place = carries-place (air_pack h ps) h c ps carries i l

  pub heard-byte : (w : ℕ) → w < h.shape.w → (source (air_pack h ps) h c).byte i w ≡ (source_of h.shape ps).byte i w
  heard-byte w b = carries.byte i w l b

  pub heard-range : Valid h.shape → unsent h ((source_of h.shape ps).place i) ≡ false → InRange (air_pack h ps) h c i
  unfolding packet_of sends
  heard-range v sent =
      let sh = h.shape in
      let (n, less, copy) = each.cell i l in
      let one : 0 < sh.l1 = omega (arith, v.l1_low) in
      let two : 0 < sh.l2 = omega (arith, v.l2_low) in
      record {
        first = rw (carries.first i l, copy.first) (mod-lt _ one);
        second = rw (carries.second i l, copy.second) (mod-lt _ two);
        third = rw (carries.third i l, copy.third) (third-lt sh _ (mul-pos one two) less);
        sent = rw (heard-place, sent);
      }
