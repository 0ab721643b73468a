-- What the writer wrote: its output is read as an air pack with every packet of the code cube that is sent; and every file that fits is taken.
use mathlib.Core.Path.{◌≡◌, refl, sym, ap, ◌∙◌}
use mathlib.Core.Bool.{true}
use mathlib.Core.List.{List}
use Prim.Native.Nat.{ℕ, ◌+◌, ◌-◌, ◌*◌, ◌/◌, ◌%◌, ◌^◌, ◌≤◌, ◌<◌}
use native.Mathlib.Nat.{mul_comm, mul-le-mul_right}
use native.Mathlib.Omega.{arith}
use lib.Dec.{leb, ltb}
use lib.ListN.{length, get_or, take, drop, length-drop}
use lib.Seq.{length-take-le}
use borrow.Author.Tests.{leb-true, ltb-true}
use Rattle.answer.specs.Values.{Value, gives, passes}
use Rattle.answer.proofs.Values.{passes-injective, passes-fails, check-passed, then-passed}
use Rattle.field.specs.Field.{reduction}
use Rattle.field.proofs.Primitive.{primitive}
use Rattle.shape.specs.declared.Shape.{Shape}
use Rattle.shape.specs.Shapes.{cells, cell, capacity, data_cell, data_cells}
use Rattle.shape.proofs.Valid.{both-parts}
use Rattle.shape.proofs.Geometry.{cell-coordinates}
use Rattle.stopping.specs.Stopping.{number}
use Rattle.stopping.proofs.Number.{number-le}
use Rattle.stopping.proofs.Ranks.{data-rank}
use Rattle.data.specs.Data.{layer}
use Rattle.data.proofs.HeldData.{data-byte-lt}
use Rattle.cube.specs.Theorems.{OnlyCodeCube, OneCodeCube}
use Rattle.cube.specs.Encoded.{encoded}
use Rattle.cube.proofs.Existence.{one-code-cube}
use Rattle.pack.specs.declared.Header.{Header}
use Rattle.pack.specs.declared.Section.{Section}
use Rattle.pack.specs.Packs.{unsent, sends, sent_packets, job_pack, air_pack, pack_size, data_string}
use Rattle.pack.specs.Reading.{used_by, header_with, header_for, job_of, file_of}
use Rattle.pack.proofs.Sound.{HeaderSound, job-sound, plain-sound, used_sound, cells_le}
use Rattle.pack.proofs.Written.{air-read, sent_packets-length, sent_packets-sized, data_string-length, pack-size}
use Rattle.pack.proofs.AirPacks.{packets-back}
use Rattle.pack.proofs.DataStrings.{data-bytes, data-later}
use Rattle.writer.specs.Write.{Written, write_checked, WriteOutcome, write_refused, write_done}
use Rattle.writer.proofs.Taken.{write-taken}
use Rattle.demands.specs.Demand3.{Wrote, AllWritten, FileTaken, EveryFileTaken}

-- ---- what stands in the output

-- the job of a call that was not refused
write-job : (p : List ℕ) (c d : ℕ) (h : Header) (s : Section) → write_checked p c d ≡ passes (h, s) → job_of p ≡ passes (h, s)
unfolding write_checked
write-job p c d h s e =
    let (a, job, rest) = then-passed (job_of p) _ (h, s) e in
    let (_, told) = check-passed _ 4 _ (h, s) rest in
    job ∙ told

pub done-written : (p xs out x output : List ℕ) (h : Header) (s : Section) → job_of p ≡ passes (h, s)
    → WriteOutcome reduction p xs out x output (gives tt) → Written reduction h (file_of p s) x output
done-written p xs out x output h s job (write_done g t e w) =
    let same = passes-injective (g, t) (h, s) (sym (write-job p _ _ g t e) ∙ job) in
    let header : g ≡ h = ap (λ (a : Header × Section). a.0) same in
    let section : t ≡ s = ap (λ (a : Header × Section). a.1) same in
    rw (header, section) at w

-- a header that was read, a file that fits, and what the writer leaves for them
pub record Job (h : Header) (contents x output : List ℕ) : Type 0 where
  pub sound : HeaderSound h
  pub fits : 4 + length contents ≤ capacity h.shape
  pub used : 4 + length contents ≤ h.used * h.shape.w
  pub written : Written reduction h contents x output

pub wrote-job : (p : List ℕ) (h : Header) (contents x output : List ℕ) → Wrote p h contents x output → Job h contents x output
unfolding file_of
wrote-job p h contents x output w =
    let sound = job-sound p h w.section w.job in
    let size : length (take w.section.count (drop w.section.at p)) ≡ w.section.count =
    length-take-le w.section.count _ (omega (arith, sound.inside, length-drop w.section.at p)) in
    record {
      sound = sound.header;
      fits = rw w.held (omega (arith, sound.room, size));
      used = rw w.held (omega (arith, sound.used, size));
      written = rw w.held (done-written p _ _ x output h w.section w.job w.done);
    }

-- the count of section 3 can hold every packet
pub packets-few : (h : Header) (x : List ℕ) → HeaderSound h → length (sent_packets h x) < 2 ^ 32
packets-few h x sound =
    omega (arith, sent_packets-length h x, number-le (sends h) (cells h.shape), cells_le h.shape sound.valid)

-- ---- cells that are not sent are 00h

-- the file ends before the data cells that are not in use
module _ (h : Header) (contents x output : List ℕ) (j : Job h contents x output) where
  blank-cell : (a b c w : ℕ) → a < h.shape.l1 - 2 → b < h.shape.l2 - 2 → c < h.shape.l3 - 2 → w < h.shape.w
      → h.used ≤ a + (h.shape.l1 - 2) * (b + (h.shape.l2 - 2) * c) → layer h.shape x w (cell h.shape a b c) ≡ 0
  blank-cell a b c w la lb lc lw late =
      let rank = a + (h.shape.l1 - 2) * (b + (h.shape.l2 - 2) * c) in
      sym (j.written.cube.holds.bytes a b c w la lb lc lw)
      ∙ data-later h.shape contents (rank * h.shape.w + w) (omega (arith, j.used, mul-le-mul_right h.shape.w late))
      (data-byte-lt h.shape a b c w la lb lc lw)

  blank : (n w : ℕ) → n < cells h.shape → w < h.shape.w → unsent h n ≡ true → layer h.shape x w n ≡ 0
  unfolding unsent data_cell
  blank n w l lw e =
      let (member, late) = both-parts (data_cell h.shape n) (leb h.used (number (data_cell h.shape) n)) e in
      let (la, rest) = both-parts (ltb (n % h.shape.l1) (h.shape.l1 - 2)) _ member in
      let (lb, lc) = both-parts (ltb (n / h.shape.l1 % h.shape.l2) (h.shape.l2 - 2)) (ltb (n / (h.shape.l1 * h.shape.l2)) (h.shape.l3 - 2)) rest in
      let a : n % h.shape.l1 < h.shape.l1 - 2 = ltb-true _ _ la in
      let b : n / h.shape.l1 % h.shape.l2 < h.shape.l2 - 2 = ltb-true _ _ lb in
      let c : n / (h.shape.l1 * h.shape.l2) < h.shape.l3 - 2 = ltb-true _ _ lc in
      let place = cell-coordinates h.shape n in
      let rank = sym (ap (number (data_cell h.shape)) place) ∙ data-rank h.shape _ _ _ a b c in
      let from : h.used ≤ number (data_cell h.shape) n = leb-true h.used (number (data_cell h.shape) n) late in
      ap (layer h.shape x w) (sym place) ∙ blank-cell _ _ _ w a b c lw (rw rank at from)

  -- the output is read as an air pack with every cell that is sent, in cell order
  pub all-written : (s : Section) × AllWritten h contents x output s
  all-written =
      let size = j.written.cube.code.size in
      let all = sent_packets-sized h x size in
      let few = packets-few h x j.sound in
      let (s, read, carries) = air-read h (sent_packets h x) j.sound all few in (
        s,
        record {
          read = rw j.written.pack read;
          every = rw j.written.pack (packets-back h (sent_packets h x) j.sound all few s read);
          cube = j.written.cube;
          blank = blank;
        },
      )

-- ---- every file that fits is taken

module _ (h : Header) (sound : HeaderSound h) (contents : List ℕ) (fits : 4 + length contents ≤ capacity h.shape)
    (used : 4 + length contents ≤ h.used * h.shape.w) (small : (i : ℕ) → get_or contents i 0 < 256) where
  abbrev sh : Shape
  sh = h.shape

  only : OnlyCodeCube reduction sh (data_string sh contents) (encoded reduction sh (data_string sh contents))
  unfolding OneCodeCube
  only = one-code-cube reduction primitive sh sound.valid (data_string sh contents) (data_string-length sh contents fits) (data-bytes sh contents small)

  -- an outcome that is no refusal
  taken-done : (xs out x output : List ℕ) (value : Value Unit) → length xs ≡ sh.w * cells sh → length out ≡ pack_size h
      → WriteOutcome reduction (job_pack h contents) xs out x output value
      → (value ≡ gives tt) × Wrote (job_pack h contents) h contents x output
  taken-done xs out x output _ c d (write_refused n e a b) =
      let (s, checks, filed) = write-taken h contents _ _ sound fits used c d in
      absurd (passes-fails (h, s) n (sym checks ∙ e))
  taken-done xs out x output _ c d (write_done g t e w) =
      let (s, checks, filed) = write-taken h contents _ _ sound fits used c d in (
        refl,
        record {
          section = s;
          job = write-job _ _ _ h s checks;
          held = sym filed;
          cube_before = xs;
          output_before = out;
          done = write_done g t e w;
        },
      )

  pub fitting-wrote : Wrote (job_pack h contents) h contents (encoded reduction sh (data_string sh contents))
      (air_pack h (sent_packets h (encoded reduction sh (data_string sh contents))))
  fitting-wrote =
      let x = encoded reduction sh (data_string sh contents) in
      let output = air_pack h (sent_packets h x) in
      let c = only.code.size in
      let d = pack-size h x sound.counted c in
      let (s, checks, filed) = write-taken h contents _ _ sound fits used c d in
      let written : Written reduction h (file_of (job_pack h contents) s) x output = rw filed (record { cube = only; pack = refl }) in
      (taken-done x output x output (gives tt) c d (write_done h s checks written)).1

  taken : FileTaken h contents
  taken = record { no_refusal = taken-done; x = _; output = _; wrote = fitting-wrote }

-- with count 5 the data cells in use hold the whole data string
pub plain-used : (sh : Shape) (n : ℕ) → n ≤ capacity sh → n ≤ (header_for sh).used * (header_for sh).shape.w
unfolding header_for header_with used_by capacity data_cells
plain-used sh n l = omega (arith, mul_comm sh.w ((sh.l1 - 2) * (sh.l2 - 2) * (sh.l3 - 2)))

used-capacity : (sh : Shape) (u : ℕ) → u ≤ data_cells sh → u * sh.w ≤ capacity sh
unfolding capacity data_cells
used-capacity sh u most = omega (arith, mul-le-mul_right sh.w most, mul_comm sh.w ((sh.l1 - 2) * (sh.l2 - 2) * (sh.l3 - 2)))

pub every-file-taken : EveryFileTaken
unfolding header_for header_with used_by
every-file-taken =
    record {
      plain = λ sh v contents fits small. taken (header_for sh) (plain-sound sh v (omega arith)) contents fits (plain-used sh _ fits) small;
      used = λ sh v u some most contents fits small.
          let room = used-capacity sh u most in
          taken (header_with sh 9 u) (used_sound sh u v (omega arith) some most) contents (omega arith) fits small;
    }
