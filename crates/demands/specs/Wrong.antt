-- Document 01, "Promises and proofs", and request P3: the wrong writers and receivers that the promises must throw out. Each is an outcome that such a program
-- would have on the paper's own example, "shape 3, 3, 3, W 5, file 08h", and that no contract allows. Those that need no pack stand in the crate
-- `examples`.
use Rattle.std.specs.Prelude.{◌≡◌, List, [], ◌∷◌, ◌++◌, map, ◌≢◌, ℕ, ◌+◌, ◌%◌, length, drop, replicate}
use Rattle.answer.specs.Values.{Value, gives, refused}
use Rattle.field.specs.Field.{reduction}
use Rattle.shape.specs.declared.Shape.{Shape}
use Rattle.cube.specs.Encoded.{encoded}
use Rattle.pack.specs.declared.Header.{Header}
use Rattle.pack.specs.Packs.{Packet, job_pack, air_pack, packet_of, sent_packets, data_string}
use Rattle.pack.specs.Reading.{header_for}
use Rattle.writer.specs.Write.{WriteOutcome}
use Rattle.receiver.specs.declared.Counts.{Counts}
use Rattle.receiver.specs.Gathering.{Reception, file, left}
use Rattle.receiver.specs.Receive.{Memory, ReceiveOutcome}
use Rattle.demands.specs.Demand3.{Lent}

-- its data cell holds a length and one byte
unfoldable pub small : Shape
small = record { l1 = 3; l2 = 3; l3 = 3; w = 5 }

-- its header, with count 5
unfoldable pub small_header : Header
small_header = header_for small

-- the code cube of a file
unfoldable pub cube_of : List ℕ → List ℕ
cube_of contents = encoded reduction small (data_string small contents)

-- a file's packets as an air pack, all but the first k
unfoldable pub packets_from : ℕ → List ℕ → List ℕ
packets_from k contents = air_pack small_header (drop k (sent_packets small_header (cube_of contents)))

-- a copy of a packet with other bytes
unfoldable pub damaged : Packet → Packet
damaged k = record { a = k.a; b = k.b; c = k.c; bytes = map (λ b. (b + 1) % 256) k.bytes }

-- every packet of a file, and before them a damaged copy of the first
unfoldable pub damaged_first : List ℕ → List Packet
damaged_first contents = damaged (packet_of small (cube_of contents) 0) ∷ sent_packets small_header (cube_of contents)

-- three copies of the last packet, of which one differs
unfoldable pub last_thrice : List ℕ → List Packet
last_thrice contents =
    packet_of small (cube_of contents) 26 ∷ damaged (packet_of small (cube_of contents) 26) ∷ packet_of small (cube_of contents) 26 ∷ []

-- the data string in its cell, 00h in all others
unfoldable pub parity_left : List ℕ → List ℕ
parity_left contents = data_string small contents ++ replicate 130 0

pub data Outcome : Type 0 where
  -- a pack, and a value that the receiver may not give for it, whatever it leaves
  receives : (pack : List ℕ) → Value Reception → Outcome
  -- a pack that the receiver may not refuse, by any number
  refuses : (pack : List ℕ) → Outcome
  -- a pack, and a file that may not come out of it
  opens : (pack contents : List ℕ) → Outcome
  -- a job, and a cube and an output that the writer may not leave
  writes : (job cube output : List ℕ) → Outcome

-- no contract allows it
unfoldable pub Excluded : Outcome → Type 0
Excluded (receives pack value) =
    (m m' : Memory) (counts : Counts) → Lent small m → ReceiveOutcome reduction pack m m' value counts → ⊥
Excluded (refuses pack) =
    (m m' : Memory) (value : Value Reception) (counts : Counts) → Lent small m → ((a : Reception) → value ≢ gives a) →
    ReceiveOutcome reduction pack m m' value counts → ⊥
Excluded (opens pack contents) =
    (m m' : Memory) (counts : Counts) → Lent small m → m'.buffer ≡ contents →
    ReceiveOutcome reduction pack m m' (gives (file (length contents))) counts → ⊥
Excluded (writes job cube output) =
    (cube_before output_before : List ℕ) → WriteOutcome reduction job cube_before output_before cube output (gives tt) → ⊥

-- The list, in document 01's order.
unfoldable pub wrong : List Outcome
wrong =
    -- "a receiver that says Left before any filling": one cell is missing, and is forced
    receives (packets_from 1 (0x08 ∷ [])) (gives (left 1)) ∷
    -- "and one that invents its count": K has all 27 cells
    receives (air_pack small_header []) (gives (left 26)) ∷
    -- "one that refuses 13 whenever it likes"
    receives (packets_from 1 (0x08 ∷ [])) (refused 13) ∷
    -- "one that gives one file always"
    opens (packets_from 0 (0x09 ∷ [])) (0x08 ∷ []) ∷
    -- "or refuses everything"
    refuses (packets_from 0 (0x08 ∷ [])) ∷
    -- "a writer that copies data and leaves parity 00h"
    writes (job_pack small_header (0x08 ∷ [])) (parity_left (0x08 ∷ []))
    (air_pack small_header (sent_packets small_header (parity_left (0x08 ∷ [])))) ∷
    -- request P3, "whichever came first": one that keeps the first copy, which contradicts the other cells
    refuses (air_pack small_header (damaged_first (0x08 ∷ []))) ∷
    -- "a third copy does not rescue it": one that takes the copy that came twice, from which alone the file would follow
    opens (air_pack small_header (last_thrice (0x08 ∷ []))) (0x08 ∷ []) ∷ []

-- every outcome of a list is excluded
unfoldable pub AllExcluded : List Outcome → Type 0
AllExcluded [] = Unit
AllExcluded (o ∷ os) = Excluded o × AllExcluded os
