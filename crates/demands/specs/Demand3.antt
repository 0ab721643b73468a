-- The third demand (document 01, "Packs"; requests P3 and P5), clause by clause. h is the header that section 1 of the writer's pack has.
use Rattle.std.specs.Prelude.{◌≡◌, Bool, true, false, cond, not, List, ◌++◌, ◌≢◌, ◌↔◌, ℕ, ◌+◌, ◌-◌, ◌*◌, ◌^◌, ◌≤◌, ◌<◌, length, get_or, drop}
use Rattle.answer.specs.Values.{Value, gives, refused, refused_at, passes}
use Rattle.field.specs.Field.{reduction}
use Rattle.shape.specs.declared.Shape.{Shape}
use Rattle.shape.specs.Shapes.{Valid, both, cells, capacity, data_cells, IsLine}
use Rattle.shape.specs.Flags.{missing}
use Rattle.stopping.specs.Stopping.{number, Stopping, Largest}
use Rattle.data.specs.Data.{layer}
use Rattle.cube.specs.Theorems.{OnlyCodeCube}
use Rattle.fill.specs.Fill.{Cleared}
use Rattle.pack.specs.declared.Header.{Header}
use Rattle.pack.specs.declared.Section.{Section}
use Rattle.pack.specs.Packs.{Packet, unsent, sends, sent_packets, job_pack, air_pack, pack_size, data_string}
use Rattle.pack.specs.Packets.{packet_in, packets_in, packet_no, source_of}
use Rattle.pack.specs.Reading.{header_with, header_for, job_of, air_of, file_of}
use Rattle.writer.specs.Write.{WriteOutcome}
use Rattle.receiver.specs.declared.Counts.{Counts}
use Rattle.receiver.specs.Placing.{among, conflicting}
use Rattle.receiver.specs.Gathering.{Reception, file, left}
use Rattle.receiver.specs.Receive.{Memory, ReceiveOutcome}

-- ---- what the writer wrote

-- "the writer takes a file when the table below has no refusal for its call": the job pack p has this header and file, and the call, lent any
-- slices, ends without a refusal. It leaves the cube x and its output.
pub record Wrote (p : List ℕ) (h : Header) (contents x output : List ℕ) : Type 0 where
  pub section : Section
  pub job : job_of p ≡ passes (h, section)
  pub held : contents ≡ file_of p section
  pub cube_before : List ℕ
  pub output_before : List ℕ
  pub done : WriteOutcome reduction p cube_before output_before x output (gives tt)

-- "the packets written are then all that the form above asks for, with the code cube's bytes": the output is itself read as an air pack, with the
-- same section 1 and "every cell in cell order" that is sent, and x is the one code cube of the file. Request P5: "data cells from the U-th on, counted
-- from 0, are 00h".
pub record AllWritten (h : Header) (contents x output : List ℕ) (s : Section) : Type 0 where
  pub read : air_of output ≡ passes (h, s)
  pub every : packets_in output h s ≡ sent_packets h x
  pub cube : OnlyCodeCube reduction h.shape (data_string h.shape contents) x
  pub blank : (n w : ℕ) → n < cells h.shape → w < h.shape.w → unsent h n ≡ true → layer h.shape x w n ≡ 0

-- ---- what is heard of it

-- the list has a packet for the cell n
unfoldable pub heard : Shape → List Packet → ℕ → Bool
heard sh ps n = among (source_of sh ps) (length ps) n

-- "a cell in disagreement": the list has copies for the cell n "that are not all equal"
unfoldable pub in_conflict : Shape → List Packet → ℕ → Bool
in_conflict sh ps n = conflicting sh (source_of sh ps) (length ps) n

-- "that the count can hold"
unfoldable pub CountHolds : List Packet → Type 0
CountHolds ps = length ps < 2 ^ 32

-- k is one of the packets written
unfoldable pub IsWritten : Header → List ℕ → Section → Packet → Type 0
IsWritten h output s k = (n : ℕ) × (n < s.count) × (k ≡ packet_in output h s n)

-- k is a packet for the cell of another, with as many bytes, whatever they are
pub record CopyOf (other k : Packet) : Type 0 where
  pub first : k.a ≡ other.a
  pub second : k.b ≡ other.b
  pub third : k.c ≡ other.c
  pub size : length k.bytes ≡ length other.bytes

-- "any list of the packets written that the count can hold: none, some or all of them, in any order, each any number of times". Request P3: "The
-- third demand's list may then also hold, for any cell that was written, copies that are not all equal, whatever their bytes".
pub record Heard (h : Header) (output : List ℕ) (s : Section) (ps : List Packet) : Type 0 where
  -- each packet is for a cell that was written
  pub cell : (i : ℕ) → i < length ps → (n : ℕ) × (n < s.count) × CopyOf (packet_in output h s n) (packet_no ps i)
  -- and, unless the copies of that cell are not all equal, it is a packet written
  pub written :
      (i : ℕ) → i < length ps → in_conflict h.shape ps ((source_of h.shape ps).place i) ≡ false → IsWritten h output s (packet_no ps i)
  pub count : CountHolds ps

-- "it is lost when that list has no packet for it"; request P3: "a cell in disagreement counts as lost in all that the demand says"
unfoldable pub missed : Shape → List Packet → ℕ → Bool
missed sh ps n = cond (heard sh ps n) (in_conflict sh ps n) true

-- request P5: "A lost place is one that was sent"
unfoldable pub lost : Header → List Packet → ℕ → Bool
lost h ps n = both (sends h n) (missed h.shape ps n)

-- ---- what the receiver gives

-- a set of cells out of L "that meets every line of the cube in none or at least three"
unfoldable pub LostSet : Shape → (ℕ → Bool) → (ℕ → Bool) → Type 0
LostSet sh L s = Stopping (cells sh) (IsLine sh) L s

-- "no such nonempty set exists"
unfoldable pub OnlyEmpty : Shape → (ℕ → Bool) → Type 0
OnlyEmpty sh L = (s : ℕ → Bool) → LostSet sh L s → (n : ℕ) → n < cells sh → s n ≡ false

-- "lent memory having the exact sizes", whatever it holds
pub record Lent (sh : Shape) (m : Memory) : Type 0 where
  pub cube : length m.cube ≡ sh.w * cells sh
  pub flags : length m.flags ≡ cells sh
  pub buffer : length m.buffer ≡ capacity sh - 4

-- "Its count of places left": "the answer File stands for a count of 0"
unfoldable pub left_in : Value Reception → ℕ
left_in (gives (file n)) = 0
left_in (gives (left k)) = k
left_in (refused n) = 0
left_in (refused_at n i) = 0

-- No refusal, an exact count, and the file exactly where nothing is left. The lost cells are those of L.
pub record Exact (h : Header) (contents x : List ℕ) (ps : List Packet) (L : ℕ → Bool) (m m' : Memory) (value : Value Reception)
    (counts : Counts) : Type 0 where
  -- "the receiver gives no refusal"
  pub answered : (a : Reception) × (value ≡ gives a)
  -- "Its count of places left is the size of the largest set of lost places that meets every line of the cube in none or at least three":
  -- the cells flagged afterwards are such a set, every other is inside it, and none is larger.
  pub size : left_in value ≡ number (missing m'.flags) (cells h.shape)
  pub largest : Largest (cells h.shape) (IsLine h.shape) L (missing m'.flags)
  pub most : (s : ℕ → Bool) → LostSet h.shape L s → number s (cells h.shape) ≤ left_in value
  -- "The count is 0 exactly when no such nonempty set exists"
  pub none_exactly : (left_in value ≡ 0) ↔ OnlyEmpty h.shape L
  -- "and the file then comes back byte for byte", the rest of the buffer kept
  pub file_back : left_in value ≡ 0 →
      (value ≡ gives (file (length contents))) × (m'.buffer ≡ contents ++ drop (length contents) m.buffer)
  -- "Otherwise the count is 27 or more, and the file buffer stays as it was."
  pub otherwise : left_in value ≢ 0 → (27 ≤ left_in value) × (value ≡ gives (left (left_in value))) × (m'.buffer ≡ m.buffer)
  -- "cube and flags stand as Filling has them": the code cube with 00h in the cells left, which are flagged 1; request P5: those unsent are
  -- flagged 2, all others 0
  pub cube : Cleared h.shape x (missing m'.flags) m'.cube
  pub flags : length m'.flags ≡ cells h.shape
  pub known : (n : ℕ) → n < cells h.shape → missing m'.flags n ≡ false → get_or m'.flags n 0 ≡ cond (unsent h n) 2 0
  -- "File and Left also carry the packet count and the repeats": the repeats are the packets less the different cells among them
  pub packets : counts.packets ≡ length ps
  pub repeats : counts.repeats + number (heard h.shape ps) (cells h.shape) ≡ length ps
  -- request P3: and how many cells are in disagreement
  pub conflicts : counts.conflicts ≡ number (in_conflict h.shape ps) (cells h.shape)

-- "The receiver's pack has section 1 as written, section 2 count 0 and, as section 3, any list" that `Allowed` has; its lost cells are those of
-- `Lost`.
unfoldable pub Demanded : (Header → List ℕ → Section → List Packet → Type 0) → (Header → List Packet → ℕ → Bool) → Type 0
Demanded Allowed Lost =
    (p : List ℕ) (h : Header) (contents x output : List ℕ) → Wrote p h contents x output →
    (s : Section) × AllWritten h contents x output s
    × ((ps : List Packet) (m m' : Memory) (value : Value Reception) (counts : Counts) →
    Allowed h output s ps → Lent h.shape m → ReceiveOutcome reduction (air_pack h ps) m m' value counts →
    Exact h contents x ps (Lost h ps) m m' value counts)

-- Demand 3, whole.
unfoldable pub Demand3 : Type 0
Demand3 = Demanded Heard lost

-- ---- count 5, with nothing unsent

-- The demand as it was before request P5: section 1 has count 5, every cell is written, and every cell that is not heard is lost.
unfoldable pub Demand3Plain : Type 0
Demand3Plain =
    (p : List ℕ) (sh : Shape) (contents x output : List ℕ) → Wrote p (header_for sh) contents x output →
    (s : Section) × AllWritten (header_for sh) contents x output s × (s.count ≡ cells sh)
    × ((ps : List Packet) (m m' : Memory) (value : Value Reception) (counts : Counts) →
    Heard (header_for sh) output s ps → Lent sh m → ReceiveOutcome reduction (air_pack (header_for sh) ps) m m' value counts →
    Exact (header_for sh) contents x ps (missed sh ps) m m' value counts)

-- ---- document 01's own list, of packets written alone

-- "any list of the packets written that the count can hold"
pub record WrittenAlone (h : Header) (output : List ℕ) (s : Section) (ps : List Packet) : Type 0 where
  pub written : (i : ℕ) → i < length ps → IsWritten h output s (packet_no ps i)
  pub count : CountHolds ps

-- "it is lost when that list has no packet for it"
unfoldable pub unheard : Header → List Packet → ℕ → Bool
unheard h ps n = both (sends h n) (not (heard h.shape ps n))

unfoldable pub Demand3Alone : Type 0
Demand3Alone = Demanded WrittenAlone unheard

-- ---- it is not empty

-- Every file of bytes that fits is taken: the writer, given the job pack of header and file and slices of the exact lengths, has no refusal, and there
-- is an outcome.
pub record FileTaken (h : Header) (contents : List ℕ) : Type 0 where
  pub no_refusal :
      (xs out x output : List ℕ) (value : Value Unit) → length xs ≡ h.shape.w * cells h.shape → length out ≡ pack_size h →
      WriteOutcome reduction (job_pack h contents) xs out x output value →
      (value ≡ gives tt) × Wrote (job_pack h contents) h contents x output
  pub x : List ℕ
  pub output : List ℕ
  pub wrote : Wrote (job_pack h contents) h contents x output

-- with count 5 one that fits a valid shape, and with U one that fits the data cells in use
pub record EveryFileTaken : Type 0 where
  pub plain :
      (sh : Shape) → Valid sh → (contents : List ℕ) → 4 + length contents ≤ capacity sh → ((i : ℕ) → get_or contents i 0 < 256) →
      FileTaken (header_for sh) contents
  pub used :
      (sh : Shape) → Valid sh → (u : ℕ) → 1 ≤ u → u ≤ data_cells sh → (contents : List ℕ) → 4 + length contents ≤ u * sh.w →
      ((i : ℕ) → get_or contents i 0 < 256) → FileTaken (header_with sh 9 u) contents
