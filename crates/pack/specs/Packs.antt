-- Packs (document 01, "Packs"): the house form as lists of bytes.
use Rattle.std.specs.Prelude.{Bool, cond, not, List, [], ◌∷◌, ◌++◌, map, ℕ, zero, suc, ◌+◌, ◌-◌, ◌*◌, ◌/◌, ◌%◌, eqb, leb, length, take, drop, replicate}
use Rattle.cursor.specs.Steps.{word_bytes}
use Rattle.shape.specs.declared.Shape.{Shape}
use Rattle.shape.specs.Shapes.{both, cells, capacity, data_cell}
use Rattle.stopping.specs.Stopping.{number}
use Rattle.pack.specs.declared.Header.{Header}

-- "Section 1, count 5: L1, L2, L3, then W in two bytes, low first."
unfoldable pub shape_bytes : Shape → List ℕ
shape_bytes sh = sh.l1 ∷ sh.l2 ∷ sh.l3 ∷ sh.w % 256 ∷ sh.w / 256 ∷ []

-- "packets of 3 + W bytes: a, b, c and the cell"
pub record Packet : Type 0 where
  pub a : ℕ
  pub b : ℕ
  pub c : ℕ
  pub bytes : List ℕ

unfoldable pub packet_bytes : Packet → List ℕ
packet_bytes k = k.a ∷ k.b ∷ k.c ∷ k.bytes

-- the packets of a list, one after another
unfoldable pub packets : List Packet → List ℕ
packets [] = []
packets (k ∷ ks) = packet_bytes k ++ packets ks

-- Section 1 after its count. Request P5: "Section 1 may have count 9, the last four bytes being U, low first".
unfoldable pub section_one : Shape → ℕ → ℕ → List ℕ
section_one sh n u = word_bytes n ++ (shape_bytes sh ++ cond (eqb n 9) (word_bytes u) [])

unfoldable pub head : Header → List ℕ
head h = section_one h.shape h.count h.used

-- "three sections in a fixed order, each after its count (four bytes, low first)". A job pack: the shape, a file, no packets.
unfoldable pub job_pack : Header → List ℕ → List ℕ
job_pack h file = head h ++ (word_bytes (length file) ++ (file ++ word_bytes 0))

-- An air pack: the shape, "section 2 count 0", packets. Request P5: "what it writes keeps section 1".
unfoldable pub air_pack : Header → List Packet → List ℕ
air_pack h ps = head h ++ (word_bytes 0 ++ (word_bytes (length ps) ++ packets ps))

-- what stands before the packets of an air pack with so many
unfoldable pub air_head : Header → ℕ → List ℕ
air_head h n = head h ++ (word_bytes 0 ++ word_bytes n)

-- ---- the cells that are sent

-- "data cells from the U-th on, counted from 0, are 00h, known from the start and never sent"
unfoldable pub unsent : Header → ℕ → Bool
unsent h n = both (data_cell h.shape n) (leb h.used (number (data_cell h.shape) n))

unfoldable pub sends : Header → ℕ → Bool
sends h n = not (unsent h n)

-- the cells below n that are sent, in cell order
unfoldable pub sent_below : Header → ℕ → List ℕ
sent_below h zero = []
sent_below h (suc n) = sent_below h n ++ cond (sends h n) (n ∷ []) []

-- the packet of cell n of a cube
unfoldable pub packet_of : Shape → List ℕ → ℕ → Packet
packet_of sh xs n =
    record { a = n % sh.l1; b = n / sh.l1 % sh.l2; c = n / (sh.l1 * sh.l2); bytes = take sh.w (drop (n * sh.w) xs) }

-- the numbers from n on, k of them
unfoldable pub up_from : ℕ → ℕ → List ℕ
up_from n zero = []
up_from n (suc k) = n ∷ up_from (suc n) k

-- "every cell in cell order", of those that are sent
unfoldable pub sent_packets : Header → List ℕ → List Packet
sent_packets h xs = map (packet_of h.shape xs) (sent_below h (cells h.shape))

-- the bytes of an air pack with so many packets
unfoldable pub air_size : Header → ℕ → ℕ
air_size h n = 12 + h.count + n * (3 + h.shape.w)

-- "its size is now 12 + section 1's count + the bytes of the packets sent"
unfoldable pub pack_size : Header → ℕ
pack_size h = air_size h (number (sends h) (cells h.shape))

-- "The data string is the file's length in four bytes, low first, the file, then 00h to capacity."
unfoldable pub data_string : Shape → List ℕ → List ℕ
data_string sh file = word_bytes (length file) ++ (file ++ replicate (capacity sh - 4 - length file) 0)
