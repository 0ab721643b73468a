-- No promise allows the wrong outcomes of specs/Wrong.antt: by demand 3 a pack from which at most 26 cells are lost gives its file and nothing else,
-- no packets leave all 27 cells, nor do copies that differ alone, and the writer's cube has right lines.
use mathlib.Core.Path.{◌≡◌, refl, sym, ap, ◌∙◌}
use mathlib.Core.Bool.{Bool, true, false, not, true≢false, false≢true}
use mathlib.Core.List.{List, [], ◌∷◌}
use mathlib.Core.Logic.{◌≢◌, ⊎_elim}
use Prim.Native.Nat.{ℕ, zero, suc, ◌+◌, ◌-◌, ◌≤◌, ◌<◌}
use native.Mathlib.Decide.{dec_lt}
use native.Mathlib.Omega.{arith}
use lib.ListN.{length, get_or, drop, length-drop}
use lib.Seq.{get_or-drop}
use Rattle.answer.specs.Values.{Value, gives}
use Rattle.answer.proofs.Values.{gives-refused}
use Rattle.field.specs.Field.{reduction, add}
use Rattle.shape.specs.declared.Shape.{Shape}
use Rattle.shape.specs.Shapes.{Valid, cells, capacity, cell, IsLine, along, axis1}
use Rattle.shape.proofs.Valid.{both-parts}
use Rattle.shape.proofs.Geometry.{cell-coordinates}
use Rattle.line.specs.Line.{syndrome0}
use Rattle.data.specs.Data.{layer}
use Rattle.cube.specs.Cube.{layer_line}
use Rattle.stopping.specs.Stopping.{number}
use Rattle.stopping.proofs.Number.{true-or-false, number_in, number-out, number-nil, number-le}
use Rattle.pack.specs.declared.Section.{Section}
use Rattle.cursor.specs.Steps.{word_bytes}
use Rattle.pack.specs.Packs.{job_pack, air_pack, packet_of, sent_packets, data_string}
use Rattle.pack.specs.Packets.{packet_no, source_of}
use Rattle.pack.proofs.Sound.{HeaderSound, plain-sound}
use Rattle.pack.proofs.Written.{air-read, job_read}
use Rattle.pack.specs.Reading.{used_by, header_with, header_for}
use Rattle.writer.specs.Write.{WriteOutcome}
use Rattle.receiver.specs.declared.Counts.{Counts}
use Rattle.receiver.specs.Gathering.{Reception, file, left}
use Rattle.receiver.specs.Receive.{Memory, ReceiveOutcome}
use Rattle.receiver.specs.Theorems.{NoPacketsPlain}
use Rattle.receiver.proofs.Copies.{earlier-among}
use Rattle.receiver.proofs.NoPackets.{all-stopping, no-packets-plain}
use Rattle.demands.specs.Demand3.{Wrote, heard, CountHolds, IsWritten, missed, LostSet, OnlyEmpty, Lent, left_in, Demanded, Demand3Plain, WrittenAlone, unheard, Demand3Alone}
use Rattle.demands.specs.Wrong.{small, small_header, cube_of, packets_from, damaged_first, last_thrice, parity_left, Excluded, wrong, AllExcluded}
use Rattle.demands.proofs.Writing.{done-written, fitting-wrote, plain-used}
use Rattle.demands.proofs.Demand3.{lent-passes, demand3-alone}
use Rattle.demands.proofs.Plain.{every-length, every-at, EveryCell, every-cell, demand3-plain}
use Rattle.demands.proofs.Corollaries.{few-lost}
use Rattle.demands.proofs.Differing.{first, first-heard, first-missed, thrice, thrice-heard, thrice-missed}

-- ---- the packets of a cube, all but the first k

module _ (sh : Shape) (v : Valid sh) (x : List ℕ) (k : ℕ) where
  part_length : length (drop k (sent_packets (header_for sh) x)) ≡ cells sh - k
  part_length = length-drop k (sent_packets (header_for sh) x) ∙ ap (λ (n : ℕ). n - k) (every-length sh v x)

  part_at : (i : ℕ) → i < length (drop k (sent_packets (header_for sh) x)) → packet_no (drop k (sent_packets (header_for sh) x)) i ≡ packet_of sh x (k + i)
  unfolding packet_no
  part_at i l =
      get_or-drop k (sent_packets (header_for sh) x) i _ ∙ every-at sh v x (k + i) (omega (arith, part_length))

  part-heard : (output : List ℕ) (s : Section) → EveryCell sh x output s → cells sh < 4294967296
      → WrittenAlone (header_for sh) output s (drop k (sent_packets (header_for sh) x))
  unfolding CountHolds IsWritten
  part-heard output s all few =
      record {
        written = λ i l.
            let inside : k + i < cells sh = omega (arith, part_length) in
            (k + i, omega (arith, all.count), part_at i l ∙ sym (all.every (k + i) inside));
        count = omega (arith, part_length);
      }

  part-place : (i : ℕ) → i < length (drop k (sent_packets (header_for sh) x)) → (source_of sh (drop k (sent_packets (header_for sh) x))).place i ≡ k + i
  unfolding source_of packet_of
  part-place i l = rw (part_at i l) (cell-coordinates sh (k + i))

  -- only the first k cells are lost
  part-lost : (n : ℕ) → n < cells sh → unheard (header_for sh) (drop k (sent_packets (header_for sh) x)) n ≡ true → n < k
  unfolding unheard heard header_for header_with
  part-lost n l e =
      elim (dec_lt n k) [
        | yes less ↦ less
        | no more ↦
            let inside : n - k < length (drop k (sent_packets (header_for sh) x)) = omega (arith, part_length) in
            let same : (source_of sh (drop k (sent_packets (header_for sh) x))).place (n - k) ≡ n = part-place (n - k) inside ∙ omega arith in
            let came : heard sh (drop k (sent_packets (header_for sh) x)) n ≡ true =
            ap (heard sh (drop k (sent_packets (header_for sh) x))) (sym same) ∙ earlier-among (source_of sh (drop k (sent_packets (header_for sh) x))) _ (n - k) inside in
            absurd (false≢true (ap not (sym came) ∙ (both-parts _ _ e).1))
      ]

-- a set with no member from k on has at most k
number-front : (P : ℕ → Bool) (k n : ℕ) → ((i : ℕ) → i < n → P i ≡ true → i < k) → number P n ≤ k
number-front P k zero h = omega (arith, number-nil P)
number-front P k (suc n) h =
    ⊎_elim
    (λ (e : P n ≡ true). omega (arith, number_in P n e, number-le P n, h n (omega arith) e))
    (λ (e : P n ≡ false). omega (arith, number-out P n e, number-front P k n (λ i l. h i (omega arith))))
    (true-or-false (P n))

-- ---- the example

small-valid : Valid small
unfolding small cells
small-valid =
    record {
      l1_low = omega arith;
      l1_high = omega arith;
      l2_low = omega arith;
      l2_high = omega arith;
      l3_low = omega arith;
      l3_high = omega arith;
      w_low = omega arith;
      w_high = omega arith;
      volume = omega arith;
    }

small-cells : cells small ≡ 27
unfolding small cells
small-cells = refl

small-packet : 0 < small.w
unfolding small
small-packet = omega arith

small-room : 5 ≤ capacity small
unfolding small capacity
small-room = omega arith

small-sound : HeaderSound (header_for small)
small-sound = plain-sound small small-valid (omega (arith, small-room))

-- a file of one byte fits
module _ (b : ℕ) (byte : b < 256) where
  one_byte : (i : ℕ) → get_or (b ∷ []) i 0 < 256
  one_byte zero = byte
  one_byte (suc i) = omega arith

  small-wrote : Wrote (job_pack small_header (b ∷ [])) small_header (b ∷ []) (cube_of (b ∷ []))
      (air_pack small_header (sent_packets small_header (cube_of (b ∷ []))))
  unfolding cube_of small_header header_for header_with
  small-wrote = fitting-wrote (header_for small) small-sound (b ∷ []) small-room (plain-used small 5 small-room) one_byte

  module _ (m m' : Memory) (value : Value Reception) (counts : Counts) (l : Lent small m) where
    -- with 26 cells lost or fewer the file comes back
    comes_back : (k : ℕ) → k ≤ 26 → ReceiveOutcome reduction (packets_from k (b ∷ [])) m m' value counts
        → (value ≡ gives (file 1)) × (m'.buffer ≡ b ∷ drop 1 m.buffer)
    unfolding packets_from small_header header_for header_with Demand3Alone Demanded
    comes_back k few o =
        let x = cube_of (b ∷ []) in
        let (s, all, exact) = demand3-alone _ small_header (b ∷ []) x _ small-wrote in
        let alone = part-heard small small-valid x k _ s (every-cell small (b ∷ []) x _ s small-valid all) (omega (arith, small-cells)) in
        let front = number-front (unheard small_header (drop k (sent_packets small_header x))) k (cells small) (part-lost small small-valid x k) in
        few-lost (exact (drop k (sent_packets small_header x)) m m' value counts alone l o) (omega arith)

    -- so does it where copies of one cell differ
    damaged-back : ReceiveOutcome reduction (air_pack small_header (damaged_first (b ∷ []))) m m' value counts → value ≡ gives (file 1)
    unfolding damaged_first first small_header header_for header_with Demand3Plain
    damaged-back o =
        let x = cube_of (b ∷ []) in
        let (s, all, _, exact) = demand3-plain _ small (b ∷ []) x _ small-wrote in
        let size = all.cube.code.size in
        let inside : 0 < cells small = omega (arith, small-cells) in
        let every = every-cell small (b ∷ []) x _ s small-valid all in
        let some = first-heard small small-valid x size small-packet inside _ s every (omega (arith, small-cells)) in
        let front = number-front (missed small (damaged_first (b ∷ []))) 1 (cells small) (first-missed small small-valid x size small-packet inside) in
        (few-lost (exact (damaged_first (b ∷ [])) m m' value counts some l o) (omega arith)).0

    -- where the copies of a cell are all that came, and differ, no file comes out
    thrice-left : ReceiveOutcome reduction (air_pack small_header (last_thrice (b ∷ []))) m m' value counts → left_in value ≢ 0
    unfolding last_thrice thrice small_header header_for header_with Demand3Plain OnlyEmpty LostSet
    thrice-left o none =
        let x = cube_of (b ∷ []) in
        let (s, all, _, exact) = demand3-plain _ small (b ∷ []) x _ small-wrote in
        let size = all.cube.code.size in
        let inside : 26 < cells small = omega (arith, small-cells) in
        let some = thrice-heard small small-valid x size small-packet 26 inside _ s (every-cell small (b ∷ []) x _ s small-valid all) in
        let empty = (exact (last_thrice (b ∷ [])) m m' value counts some l o).none_exactly.0 none in
        let full = all-stopping small small-valid (missed small (last_thrice (b ∷ []))) (λ n less. thrice-missed small small-valid x size small-packet 26 inside n) in
        true≢false (empty (λ n. true) full 26 inside)

-- with no packet every cell is left
all_left : (m m' : Memory) (value : Value Reception) (counts : Counts) → Lent small m → ReceiveOutcome reduction (air_pack small_header []) m m' value counts
    → value ≡ gives (left 27)
unfolding NoPacketsPlain small_header header_for header_with used_by
all_left m m' value counts l o =
    let (c, read, carries) = air-read (header_for small) [] small-sound (λ i less. absurd (omega arith)) (omega arith) in
    no-packets-plain reduction (air_pack (header_for small) []) m m' value counts (header_for small) c
    (lent-passes (air_pack (header_for small) []) (header_for small) c m read l) carries.count refl o
    ∙ ap (λ (k : ℕ). gives (left k)) small-cells

-- ---- the wrong outcomes

left-file : (k n : ℕ) → gives (left k) ≡ gives (file n) → ⊥
left-file k n e = let z : ◌≡◌ {A = ℕ} 0 1 = cc in omega arith

other-left : (k n : ℕ) → gives (left k) ≡ gives (left n) → k ≡ n
other-left k n e = cc

other-file : (b c : ℕ) (bs cs ds : List ℕ) → bs ≡ b ∷ cs → bs ≡ c ∷ ds → b ≡ c
other-file b c bs cs ds p q = cc

-- the first line of axis 1 in layer 0 is 01 00 00 (h)
no-parity : (xs out : List ℕ)
    → WriteOutcome reduction (job_pack small_header (0x08 ∷ [])) xs out (parity_left (0x08 ∷ []))
    (air_pack small_header (sent_packets small_header (parity_left (0x08 ∷ [])))) (gives tt) → ⊥
unfolding small small_header header_for header_with cell layer_line layer parity_left data_string word_bytes capacity syndrome0 add
no-parity xs out o =
    let (s, job, filed) = job_read (header_for small) (0x08 ∷ []) small-sound small-room (plain-used small 5 small-room) in
    let w = done-written _ xs out _ _ (header_for small) s job o in
    let line : IsLine small (cell small 0 0 0) 1 small.l1 = along (axis1 0 0 (omega arith) (omega arith)) in
    let sum : ◌≡◌ {A = ℕ} 1 0 = (w.cube.code.lines (cell small 0 0 0) 1 small.l1 line 0 (omega arith)).first in
    omega arith

pub wrong-excluded : AllExcluded wrong
unfolding AllExcluded Excluded wrong left_in
wrong-excluded = (
  λ m m' counts l o. left-file 1 1 (comes_back 0x08 (omega arith) m m' _ counts l 1 (omega arith) o).0,
  (
    λ m m' counts l o. let e = other-left 26 27 (all_left m m' _ counts l o) in omega arith,
    (
      λ m m' counts l o. gives-refused (file 1) 13 (sym (comes_back 0x08 (omega arith) m m' _ counts l 1 (omega arith) o).0),
      (
        λ m m' counts l is o.
            let back = comes_back 0x09 (omega arith) m m' _ counts l 0 (omega arith) o in
            let same = other-file 0x08 0x09 m'.buffer [] (drop 1 m.buffer) is back.1 in
            omega arith,
        (
          λ m m' value counts l none o. none (file 1) (comes_back 0x08 (omega arith) m m' value counts l 0 (omega arith) o).0,
          (
            no-parity,
            (
              λ m m' value counts l none o. none (file 1) (damaged-back 0x08 (omega arith) m m' value counts l o),
              (λ m m' counts l is o. thrice-left 0x08 (omega arith) m m' _ counts l o refl, tt),
            ),
          ),
        ),
      ),
    ),
  ),
)
