-- The packets of a pack as a sequence: for each index the cell it names and its bytes (document 01, "Packs").
use Rattle.std.specs.Prelude.{◌≡◌, true, List, [], map, ℕ, ◌+◌, ◌*◌, ◌≤◌, ◌<◌, length, get_or, take, drop, Option, Some, None}
use Rattle.shape.specs.declared.Shape.{Shape}
use Rattle.shape.specs.Shapes.{cell}
use Rattle.pack.specs.declared.Section.{Section}
use Rattle.pack.specs.declared.Header.{Header}
use Rattle.pack.specs.Packs.{Packet, up_from, sends}
use Rattle.pack.specs.Reading.{packet_size}

pub record Source : Type 0 where
  pub count : ℕ
  pub place : ℕ → ℕ
  pub byte : ℕ → ℕ → ℕ

-- where packet i of a section begins
unfoldable pub packet_at : Header → Section → ℕ → ℕ
packet_at h s i = s.at + i * packet_size h

-- the packets that stand in a section of a pack
unfoldable pub source : List ℕ → Header → Section → Source
source p h s =
    record {
      count = s.count;
      place = λ i.
          cell h.shape (get_or p (packet_at h s i) 0) (get_or p (packet_at h s i + 1) 0) (get_or p (packet_at h s i + 2) 0);
      byte = λ i w. get_or p (packet_at h s i + 3 + w) 0;
    }

-- packet i as it stands there
unfoldable pub packet_in : List ℕ → Header → Section → ℕ → Packet
packet_in p h s i =
    record {
      a = get_or p (packet_at h s i) 0;
      b = get_or p (packet_at h s i + 1) 0;
      c = get_or p (packet_at h s i + 2) 0;
      bytes = take h.shape.w (drop (packet_at h s i + 3) p);
    }

-- the packets that stand in a section, in pack order
unfoldable pub packets_in : List ℕ → Header → Section → List Packet
packets_in p h s = map (packet_in p h s) (up_from 0 s.count)

-- the packets of a list
unfoldable pub packet_no : List Packet → ℕ → Packet
packet_no ps i = get_or ps i (record { a = 0; b = 0; c = 0; bytes = [] })

unfoldable pub source_of : Shape → List Packet → Source
source_of sh ps =
    record {
      count = length ps;
      place = λ i. cell sh (packet_no ps i).a (packet_no ps i).b (packet_no ps i).c;
      byte = λ i w. get_or (packet_no ps i).bytes w 0;
    }

-- Packet i stands in the pack, whatever cell it names. This holds of every packet of a pack that was read.
pub record Stands (p : List ℕ) (h : Header) (s : Section) (i : ℕ) : Type 0 where
  pub l1_high : h.shape.l1 ≤ 255
  pub l2_high : h.shape.l2 ≤ 255
  pub w_high : h.shape.w ≤ 1024
  pub inside : packet_at h s i + packet_size h ≤ length p

-- What `Packets::parts` answers: a, b, c and where the cell's bytes begin, or that no packet stands there.
pub data PartsOutcome (p : List ℕ) (h : Header) (s : Section) (i : ℕ) : Option (ℕ × ℕ × ℕ × ℕ) → Type 0 where
  standing :
      Stands p h s i →
      PartsOutcome p h s i (Some ((packet_in p h s i).a, (packet_in p h s i).b, (packet_in p h s i).c, packet_at h s i + 3))
  not_standing : (Stands p h s i → ⊥) → PartsOutcome p h s i None

-- Packet i stands in the pack and names a cell of the cube.
pub record OnCube (p : List ℕ) (h : Header) (s : Section) (i : ℕ) : Type 0 where
  pub stands : Stands p h s i
  pub first : get_or p (packet_at h s i) 0 < h.shape.l1
  pub second : get_or p (packet_at h s i + 1) 0 < h.shape.l2
  pub third : get_or p (packet_at h s i + 2) 0 < h.shape.l3

-- What `Packets::packet` answers: the cell and where its bytes begin, or that no packet stands there or names a cell.
pub data PacketOutcome (p : List ℕ) (h : Header) (s : Section) (i : ℕ) : Option (ℕ × ℕ) → Type 0 where
  named : OnCube p h s i → PacketOutcome p h s i (Some ((source p h s).place i, packet_at h s i + 3))
  unnamed : (OnCube p h s i → ⊥) → PacketOutcome p h s i None

-- 11: "a, b or c not below its length" does not hold of packet i. Request P5: "A packet for an unsent cell meets 11."
pub record InRange (p : List ℕ) (h : Header) (s : Section) (i : ℕ) : Type 0 where
  pub first : get_or p (packet_at h s i) 0 < h.shape.l1
  pub second : get_or p (packet_at h s i + 1) 0 < h.shape.l2
  pub third : get_or p (packet_at h s i + 2) 0 < h.shape.l3
  pub sent : sends h ((source p h s).place i) ≡ true

-- Packet i stands in the pack and names a cell that is sent.
pub record Named (p : List ℕ) (h : Header) (s : Section) (i : ℕ) : Type 0 where
  pub stands : Stands p h s i
  pub range : InRange p h s i

-- Packet r, or the count, is the first that names no cell that is sent (`Packets::first_outside`).
pub record FirstOutside (p : List ℕ) (h : Header) (s : Section) (r : ℕ) : Type 0 where
  pub bound : r ≤ s.count
  pub before : (i : ℕ) → i < r → Named p h s i
  pub here : r < s.count → Named p h s r → ⊥
