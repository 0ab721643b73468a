-- Packs that were written: where the bytes of each packet stand, and that a reader finds again what a pack was made of. Reading goes as the
-- pack is laid out: a count, then so many bytes, each behind what was written before it.
use mathlib.Core.Path.{◌≡◌, refl, ap, sym, ◌∙◌}
use mathlib.Core.Bool.{true, cond}
use mathlib.Core.Logic.{◌⊎◌, ⊎_elim}
use mathlib.Core.List.{List, [], ◌∷◌, ◌++◌, map, append_assoc, append-nil}
use Prim.Native.Nat.{ℕ, zero, suc, ◌+◌, ◌-◌, ◌*◌, ◌/◌, ◌%◌, ◌^◌, ◌≤◌, ◌<◌}
use native.Mathlib.Nat.{add-zero, suc-mul, zero-mul, mul_comm, mod-eq_of_lt, div-add-mod, div-div-eq-div-mul, mod-add-div}
use native.Mathlib.Omega.{arith}
use lib.Dec.{eqb}
use lib.ListN.{length, get_or, take, drop, replicate, length-append, length-drop, length-replicate, length-map, get_or-append, get_or-map}
use lib.Seq.{length-take-le, get_or-append-add, take-append_seam, drop-append_seam}
use borrow.Author.Tests.{le-leb, eq-eqb}
use Rattle.answer.specs.Values.{Checked, passes, check, and_then}
use Rattle.shape.specs.declared.Shape.{Shape}
use Rattle.shape.specs.declared.Sizes.{Sizes}
use Rattle.shape.specs.Shapes.{cells, capacity, data_cells, sizes}
use Rattle.shape.proofs.Valid.{valid-passes, within-true}
use Rattle.stopping.specs.Stopping.{number}
use Rattle.span.proofs.Stretches.{stretch-end}
use Rattle.cursor.specs.declared.Cursor.{Cursor}
use Rattle.pack.specs.declared.Section.{Section}
use Rattle.pack.specs.declared.Header.{Header}
use Rattle.cursor.specs.Steps.{word, word_bytes}
use Rattle.pack.specs.Packs.{shape_bytes, section_one, head, Packet, packet_bytes, packets, job_pack, air_pack, air_head, packet_of, up_from, sends, sent_below, sent_packets, air_size, pack_size, data_string}
use Rattle.cursor.specs.Steps.{count, bytes}
use Rattle.pack.specs.Reading.{end, shape_at, given_at, used_by, header_with, headed, is_count, header_of, job_behind, job_of, packet_size, air_behind, air_of, file_of}
use Rattle.pack.specs.Packets.{packet_at, packet_no, source, source_of}
use Rattle.pack.proofs.Sound.{HeaderSound, cells_le, data-cells-le, capacity_le}
use Rattle.pack.proofs.Sent.{SentAt, sent_below-length, sent_below-at}

-- ---- words

base-256 : (n a b c : ℕ) → n ≡ 256 * a + n % 256 → a ≡ 256 * b + a % 256 → b ≡ 256 * c + b % 256 → c ≡ c % 256
    → n % 256 + 256 * (a % 256) + 65536 * (b % 256) + 16777216 * (c % 256) ≡ n
base-256 n a b c p q r s = omega arith

-- four bytes, low first, are the number that they were made of
pub word_bytes-value : (n : ℕ) → n < 2 ^ 32
    → n % 256 + 256 * (n / 256 % 256) + 65536 * (n / 65536 % 256) + 16777216 * (n / 16777216 % 256) ≡ n
word_bytes-value n h =
    let b : n / 65536 ≡ n / 256 / 256 = sym (div-div-eq-div-mul n 256 256) in
    let c : n / 16777216 ≡ n / 256 / 256 / 256 = sym (div-div-eq-div-mul n 256 65536) ∙ sym (div-div-eq-div-mul (n / 256) 256 256) in
    let top : n / 256 / 256 / 256 < 256 = omega arith in
    rw (b, c) (base-256 n (n / 256) (n / 256 / 256) (n / 256 / 256 / 256) (sym (div-add-mod n 256))
    (sym (div-add-mod (n / 256) 256)) (sym (div-add-mod (n / 256 / 256) 256)) (sym (mod-eq_of_lt top)))

pub word-word_bytes : (p q : List ℕ) (n : ℕ) → n < 2 ^ 32 → word (p ++ (word_bytes n ++ q)) (length p) ≡ n
unfolding word word_bytes
word-word_bytes p q n h =
    let at : (k : ℕ) → get_or (p ++ (word_bytes n ++ q)) (length p + k) 0 ≡ get_or (word_bytes n ++ q) k 0
    = λ (k : ℕ). get_or-append-add p (word_bytes n ++ q) k 0 in
    rw (sym (ap (λ (k : ℕ). get_or (p ++ (word_bytes n ++ q)) k 0) (add-zero (length p))) ∙ at 0, at 1, at 2, at 3) (word_bytes-value n h)

shape_at-shape_bytes : (p q : List ℕ) (sh : Shape) → shape_at (p ++ (shape_bytes sh ++ q)) (length p) ≡ sh
unfolding shape_at shape_bytes
shape_at-shape_bytes p q sh =
    let at : (k : ℕ) → get_or (p ++ (shape_bytes sh ++ q)) (length p + k) 0 ≡ get_or (shape_bytes sh ++ q) k 0
    = λ (k : ℕ). get_or-append-add p (shape_bytes sh ++ q) k 0 in
    rw (sym (ap (λ (k : ℕ). get_or (p ++ (shape_bytes sh ++ q)) k 0) (add-zero (length p))) ∙ at 0, at 1, at 2, at 3, at 4, mod-add-div sh.w 256)

-- ---- the steps of reading, over what was written: `before` ends where the cursor stands

behind : List ℕ → Cursor
behind before = record { at = length before }

module _ {A : Type 0} (p before rest : List ℕ) where
  count-written : (n : ℕ) (next : ℕ → Cursor → Checked A) → p ≡ before ++ (word_bytes n ++ rest) → n < 2 ^ 32
      → count p (behind before) next ≡ next n (behind (before ++ word_bytes n))
  unfolding count check behind word_bytes
  count-written n next e h =
      rw (
        e,
        le-leb (length before + 4) (length (before ++ (word_bytes n ++ rest))) (omega (arith, length-append before (word_bytes n ++ rest))),
        word-word_bytes before rest n h,
        length-append before (word_bytes n),
      )

  bytes-written : (body : List ℕ) (n : ℕ) (next : ℕ → Cursor → Checked A) → p ≡ before ++ (body ++ rest) → n ≡ length body
      → bytes p (behind before) n next ≡ next (length before) (behind (before ++ body))
  unfolding bytes check behind
  bytes-written body n next e size =
      rw (
        e,
        size,
        le-leb (length before + length body) (length (before ++ (body ++ rest)))
            (omega (arith, length-append before (body ++ rest), length-append body rest)),
        length-append before body,
      )

end-written : {A : Type 0} (p before : List ℕ) (done : Checked A) → p ≡ before → end p (behind before) done ≡ done
unfolding end check behind
end-written p before done e = rw (e, eq-eqb (length before) (length before) refl)

-- ---- section 1

-- its bytes after the count
unfoldable body : Header → List ℕ
body h = shape_bytes h.shape ++ cond (eqb h.count 9) (word_bytes h.used) []

body-length : (h : Header) → (h.count ≡ 5) ⊎ (h.count ≡ 9) → h.count ≡ length (body h)
unfolding body shape_bytes word_bytes
body-length h counted = ⊎_elim (λ e. rw e) (λ e. rw e) counted

pub head-length : (h : Header) → (h.count ≡ 5) ⊎ (h.count ≡ 9) → length (head h) ≡ 4 + h.count
unfolding head section_one word_bytes body
head-length h counted = omega (arith, body-length h counted)

used-small : (h : Header) → HeaderSound h → h.used < 2 ^ 32
used-small h sound = omega (arith, sound.most, data-cells-le h.shape, cells_le h.shape sound.valid)

-- U stands behind the shape
given-written : (h : Header) (rest : List ℕ) → HeaderSound h
    → used_by h.shape h.count (given_at (head h ++ rest) (length (word_bytes h.count)) h.count) ≡ h.used
unfolding head section_one given_at used_by shape_bytes word_bytes
given-written h rest sound =
    ⊎_elim (λ e. rw e (sym (sound.plain e)))
    (λ e.
    let sh = h.shape in
    rw e (word-word_bytes (word_bytes 9 ++ shape_bytes sh) rest h.used (used-small h sound)))
    sound.counted

header-back : (h : Header) (u : ℕ) → HeaderSound h → used_by h.shape h.count u ≡ h.used → header_with h.shape h.count u ≡ h
unfolding header_with
header-back h u sound e = rw (e, ← sound.measured)

header-written : (h : Header) (rest : List ℕ) → HeaderSound h → header_of (head h ++ rest) ≡ passes (h, behind (head h))
unfolding header_of headed head section_one behind check and_then sizes body is_count
header-written h rest sound =
    let p = head h ++ rest in
    let n = h.count in
    let u = given_at p (length (word_bytes n)) n in
    let given : used_by h.shape n u ≡ h.used = given-written h rest sound in
    let counted : is_count n ≡ true = ⊎_elim (λ e. rw e) (λ e. rw e) sound.counted in
    let small : n < 2 ^ 32 = ⊎_elim (λ e. omega arith) (λ e. omega arith) sound.counted in
    rw (
      count-written p [] (body h ++ rest) n _ (append_assoc (word_bytes n) (body h) rest) small,
      counted,
      bytes-written p (word_bytes n) rest (body h) n _ (append_assoc (word_bytes n) (body h) rest) (body-length h sound.counted),
      shape-there,
      valid-passes h.shape sound.valid,
      le-leb 4 (capacity h.shape) sound.room,
      given,
      within-true 1 (data_cells h.shape) h.used sound.some sound.most,
      header-back h u sound given,
    )
  where
    shape-there : shape_at (head h ++ rest) (length (word_bytes h.count)) ≡ h.shape
    shape-there =
        ap (λ (q : List ℕ). shape_at q (length (word_bytes h.count)))
        (append_assoc (word_bytes h.count) (body h) rest ∙ ap (λ (q : List ℕ). word_bytes h.count ++ q) (append_assoc (shape_bytes h.shape) _ rest))
        ∙ shape_at-shape_bytes (word_bytes h.count) _ h.shape

-- ---- packets

-- every packet of a list has W bytes
abbrev pub Sized : ℕ → List Packet → Type 0
Sized w ps = (i : ℕ) → i < length ps → length (packet_no ps i).bytes ≡ w

packet-byte : (k : Packet) (w : ℕ) → get_or (packet_bytes k) (3 + w) 0 ≡ get_or k.bytes w 0
unfolding packet_bytes
packet-byte k w = get_or-append-add (k.a ∷ k.b ∷ k.c ∷ []) k.bytes w 0

module _ (w : ℕ) where
  pub packets-length : (ps : List Packet) → Sized w ps → length (packets ps) ≡ length ps * (3 + w)
  unfolding packets packet_bytes packet_no
  packets-length [] all = sym (zero-mul (3 + w))
  packets-length (k ∷ ks) all =
      let rest = packets-length ks (λ (i : ℕ) (h : i < length ks). all (suc i) (omega arith)) in
      let here : length k.bytes ≡ w = all 0 (omega arith) in
      omega (arith, length-append k.bytes (packets ks), suc-mul (length ks) (3 + w))

  -- byte t of packet i
  pub packets-at : (ps : List Packet) → Sized w ps → (i t : ℕ) → i < length ps → t < 3 + w
      → get_or (packets ps) (i * (3 + w) + t) 0 ≡ get_or (packet_bytes (packet_no ps i)) t 0
  unfolding packets packet_bytes packet_no
  packets-at [] all i t h l = absurd (omega arith)
  packets-at (k ∷ ks) all zero t h l =
      let here : length k.bytes ≡ w = all 0 h in
      let z : zero * (3 + w) + t ≡ t = omega (arith, zero-mul (3 + w)) in
      rw z (get_or-append (packet_bytes k) (packets ks) 0 t (omega arith))
  packets-at (k ∷ ks) all (suc i) t h l =
      let here : length k.bytes ≡ w = all 0 (omega arith) in
      let z : suc i * (3 + w) + t ≡ length (packet_bytes k) + (i * (3 + w) + t) = omega (arith, suc-mul i (3 + w)) in
      rw z (
      get_or-append-add (packet_bytes k) (packets ks) (i * (3 + w) + t) 0
      ∙ packets-at ks (λ (j : ℕ) (m : j < length ks). all (suc j) (omega arith)) i t (omega arith) l
      )

-- ---- an air pack

-- the packets of a list stand in a section: as many, with their coordinates and their bytes
pub record Carries (p : List ℕ) (h : Header) (s : Section) (ps : List Packet) : Type 0 where
  pub count : s.count ≡ length ps
  pub first : (i : ℕ) → i < length ps → get_or p (packet_at h s i) 0 ≡ (packet_no ps i).a
  pub second : (i : ℕ) → i < length ps → get_or p (packet_at h s i + 1) 0 ≡ (packet_no ps i).b
  pub third : (i : ℕ) → i < length ps → get_or p (packet_at h s i + 2) 0 ≡ (packet_no ps i).c
  pub byte : (i w : ℕ) → i < length ps → w < h.shape.w → (source p h s).byte i w ≡ (source_of h.shape ps).byte i w

carries : (before : List ℕ) (h : Header) (ps : List Packet) → Sized h.shape.w ps
    → Carries (before ++ packets ps) h (record { at = length before; count = length ps }) ps
unfolding packet_at packet_size packet_bytes source source_of
carries before h ps all =
    record {
      count = refl;
      first = λ (i : ℕ) (l : i < length ps).
          let z : length before + i * (3 + h.shape.w) ≡ length before + (i * (3 + h.shape.w) + 0) = omega arith in
          rw z (at i 0 l (omega arith));
      second = λ (i : ℕ) (l : i < length ps).
          let z : length before + i * (3 + h.shape.w) + 1 ≡ length before + (i * (3 + h.shape.w) + 1) = omega arith in
          rw z (at i 1 l (omega arith));
      third = λ (i : ℕ) (l : i < length ps).
          let z : length before + i * (3 + h.shape.w) + 2 ≡ length before + (i * (3 + h.shape.w) + 2) = omega arith in
          rw z (at i 2 l (omega arith));
      byte = λ (i w : ℕ) (l : i < length ps) (m : w < h.shape.w).
          let z : length before + i * (3 + h.shape.w) + 3 + w ≡ length before + (i * (3 + h.shape.w) + (3 + w)) = omega arith in
          rw z (at i (3 + w) l (omega arith)) ∙ packet-byte (packet_no ps i) w;
    }
  where
    at : (i t : ℕ) → i < length ps → t < 3 + h.shape.w
        → get_or (before ++ packets ps) (length before + (i * (3 + h.shape.w) + t)) 0 ≡ get_or (packet_bytes (packet_no ps i)) t 0
    at i t l m =
        get_or-append-add before (packets ps) (i * (3 + h.shape.w) + t) 0 ∙ packets-at h.shape.w ps all i t l m

-- the place that packet i names
pub carries-place : (p : List ℕ) (h : Header) (s : Section) (ps : List Packet) → Carries p h s ps → (i : ℕ) → i < length ps
    → (source p h s).place i ≡ (source_of h.shape ps).place i
unfolding source source_of
carries-place p h s ps c i l = rw (c.first i l, c.second i l, c.third i l)

module _ (h : Header) (ps : List Packet) (sound : HeaderSound h) (all : Sized h.shape.w ps) (few : length ps < 2 ^ 32) where
  -- the bytes before the packets
  start : List ℕ
  start = (head h ++ word_bytes 0) ++ word_bytes (length ps)

  laid : start ++ packets ps ≡ air_pack h ps
  unfolding air_pack start
  laid = simp append_assoc

  header-laid : header_of (air_pack h ps) ≡ passes (h, behind (head h))
  unfolding air_pack
  header-laid = header-written h _ sound

  air-behind-written : air_behind (air_pack h ps) h (behind (head h)) ≡ passes (h, record { at = length start; count = length ps })
  unfolding air_behind air_pack start check packet_size
  air-behind-written =
      let p = head h ++ (word_bytes 0 ++ (word_bytes (length ps) ++ packets ps)) in
      rw (
        count-written p (head h) (word_bytes (length ps) ++ packets ps) 0 _ refl (omega arith),
        count-written p (head h ++ word_bytes 0) (packets ps) (length ps) _ (simp append_assoc) few,
        bytes-written p start [] (packets ps) (length ps * (3 + h.shape.w)) _ (simp (append_assoc, append-nil))
            (sym (packets-length h.shape.w ps all)),
        end-written p (start ++ packets ps) _ (simp append_assoc),
      )

  -- an air pack is read as the section that carries its packets
  pub air-read : (s : Section) × (air_of (air_pack h ps) ≡ passes (h, s)) × Carries (air_pack h ps) h s ps
  unfolding air_of and_then
  air-read =
      let whole : start ++ packets ps ≡ air_pack h ps = laid in (
        record { at = length start; count = length ps },
        rw header-laid air-behind-written,
        rw whole at (carries start h ps all),
      )

-- ---- a job pack

file-laid : (before file rest : List ℕ) → take (length file) (drop (length before) (before ++ (file ++ rest))) ≡ file
file-laid before file rest = rw (drop-append_seam before (file ++ rest)) (take-append_seam file rest)

module _ (h : Header) (file : List ℕ) (sound : HeaderSound h) (fits : 4 + length file ≤ capacity h.shape)
    (used : 4 + length file ≤ h.used * h.shape.w) where
  -- a file that fits a cube has a count
  few : length file < 2 ^ 32
  few = omega (arith, capacity_le h.shape sound.valid)

  header-laid-job : header_of (job_pack h file) ≡ passes (h, behind (head h))
  unfolding job_pack
  header-laid-job = header-written h _ sound

  capacity-held : h.sizes.capacity ≡ capacity h.shape
  unfolding sizes
  capacity-held = ap (λ (z : Sizes). z.capacity) sound.measured

  job-behind-written : job_behind (job_pack h file) h (behind (head h))
      ≡ passes (h, record { at = length (head h ++ word_bytes (length file)); count = length file })
  unfolding job_behind job_pack check
  job-behind-written =
      let p = head h ++ (word_bytes (length file) ++ (file ++ word_bytes 0)) in
      let before = head h ++ word_bytes (length file) in
      rw (
        count-written p (head h) (file ++ word_bytes 0) (length file) _ refl few,
        le-leb (4 + length file) h.sizes.capacity (rw capacity-held fits),
        le-leb (4 + length file) (h.used * h.shape.w) used,
        bytes-written p before (word_bytes 0) file (length file) _ (simp append_assoc) refl,
        count-written p (before ++ file) [] 0 _ (simp (append_assoc, append-nil)) (omega arith),
        end-written p ((before ++ file) ++ word_bytes 0) _ (simp append_assoc),
      )

  job-laid : job_pack h file ≡ (head h ++ word_bytes (length file)) ++ (file ++ word_bytes 0)
  unfolding job_pack
  job-laid = simp append_assoc

  file-read : take (length file) (drop (length (head h ++ word_bytes (length file))) (job_pack h file)) ≡ file
  file-read =
      let whole : job_pack h file ≡ (head h ++ word_bytes (length file)) ++ (file ++ word_bytes 0) = job-laid in
      rw whole (file-laid (head h ++ word_bytes (length file)) file (word_bytes 0))

  -- a job pack is read as a job with its file
  pub job_read : (s : Section) × (job_of (job_pack h file) ≡ passes (h, s)) × (file_of (job_pack h file) s ≡ file)
  unfolding job_of and_then file_of
  job_read = (
    record { at = length (head h ++ word_bytes (length file)); count = length file },
    rw header-laid-job job-behind-written,
    file-read,
  )

-- ---- the packets of cells

pub get_or-inside : {A : Type 0} (l : List A) (i : ℕ) (d e : A) → i < length l → get_or l i d ≡ get_or l i e
get_or-inside [] i d e h = absurd (omega arith)
get_or-inside (a ∷ l) zero d e h = refl
get_or-inside (a ∷ l) (suc i) d e h = get_or-inside l i d e (omega arith)

pub up_from-length : (n k : ℕ) → length (up_from n k) ≡ k
unfolding up_from
up_from-length n zero = refl
up_from-length n (suc k) = ap suc (up_from-length (suc n) k)

pub up_from-at : (n k i : ℕ) → i < k → get_or (up_from n k) i 0 ≡ n + i
unfolding up_from
up_from-at n zero i h = absurd (omega arith)
up_from-at n (suc k) zero h = sym (add-zero n)
up_from-at n (suc k) (suc i) h = up_from-at (suc n) k i (omega arith) ∙ omega arith

pub packets-append : (ks js : List Packet) → packets (ks ++ js) ≡ packets ks ++ packets js
unfolding packets
packets-append [] js = refl
packets-append (k ∷ ks) js = rw (packets-append ks js) (sym (append_assoc (packet_bytes k) (packets ks) (packets js)))

-- the bytes of a cell lie in the cube
pub cell-bytes-le : (sh : Shape) (xs : List ℕ) (n : ℕ) → length xs ≡ sh.w * cells sh → n < cells sh → n * sh.w + sh.w ≤ length xs
cell-bytes-le sh xs n size h = omega (arith, stretch-end n (cells sh) sh.w h, mul_comm (cells sh) sh.w)

pub packet_of-length : (sh : Shape) (xs : List ℕ) → length xs ≡ sh.w * cells sh → (n : ℕ) → n < cells sh
    → length (packet_of sh xs n).bytes ≡ sh.w
unfolding packet_of
packet_of-length sh xs size n h =
    let inside = cell-bytes-le sh xs n size h in
    length-take-le sh.w (drop (n * sh.w) xs) (omega (arith, length-drop (n * sh.w) xs))

-- "every cell in cell order", of those that are sent
module _ (h : Header) (xs : List ℕ) where
  pub sent_packets-length : length (sent_packets h xs) ≡ number (sends h) (cells h.shape)
  unfolding sent_packets
  sent_packets-length = length-map (sent_below h (cells h.shape)) (packet_of h.shape xs) ∙ sent_below-length h (cells h.shape)

  pub sent_packets-at : (i : ℕ) → i < length (sent_packets h xs)
      → packet_no (sent_packets h xs) i ≡ packet_of h.shape xs (get_or (sent_below h (cells h.shape)) i 0)
  unfolding sent_packets packet_no
  sent_packets-at i l =
      get_or-inside (map (packet_of h.shape xs) (sent_below h (cells h.shape))) i _ (packet_of h.shape xs 0) l
      ∙ get_or-map (packet_of h.shape xs) (sent_below h (cells h.shape)) i 0

  -- the cell of packet i
  pub sent-cell : (i : ℕ) → i < length (sent_packets h xs) → SentAt h (cells h.shape) (get_or (sent_below h (cells h.shape)) i 0)
  unfolding sent_packets
  sent-cell i l =
      sent_below-at h (cells h.shape) i (omega (arith, length-map (sent_below h (cells h.shape)) (packet_of h.shape xs)))

  pub sent_packets-sized : length xs ≡ h.shape.w * cells h.shape → Sized h.shape.w (sent_packets h xs)
  sent_packets-sized size i l = rw (sent_packets-at i l) (packet_of-length h.shape xs size _ (sent-cell i l).below)

-- what stands before the packets, and the packets
pub air-laid : (h : Header) (ps : List Packet) → air_pack h ps ≡ air_head h (length ps) ++ packets ps
unfolding air_pack air_head
air-laid h ps = simp append_assoc

pub air_head-length : (h : Header) (n : ℕ) → (h.count ≡ 5) ⊎ (h.count ≡ 9) → length (air_head h n) ≡ 12 + h.count
unfolding air_head word_bytes
air_head-length h n counted = omega (arith, length-append (head h) (word_bytes 0 ++ word_bytes n), head-length h counted)

pub air-length : (h : Header) (ps : List Packet) → (h.count ≡ 5) ⊎ (h.count ≡ 9) → Sized h.shape.w ps
    → length (air_pack h ps) ≡ air_size h (length ps)
unfolding air_size
air-length h ps counted all =
    ap length (air-laid h ps) ∙ length-append (air_head h (length ps)) (packets ps)
    ∙ omega (arith, air_head-length h (length ps) counted, packets-length h.shape.w ps all)

-- the written pack has the size that request P5 gives
pub pack-size : (h : Header) (xs : List ℕ) → (h.count ≡ 5) ⊎ (h.count ≡ 9) → length xs ≡ h.shape.w * cells h.shape
    → length (air_pack h (sent_packets h xs)) ≡ pack_size h
unfolding pack_size
pack-size h xs counted size =
    air-length h (sent_packets h xs) counted (sent_packets-sized h xs size) ∙ ap (air_size h) (sent_packets-length h xs)

-- ---- data strings

pub data_string-length : (sh : Shape) (file : List ℕ) → 4 + length file ≤ capacity sh → length (data_string sh file) ≡ capacity sh
unfolding data_string word_bytes
data_string-length sh file h =
    let zeros = replicate {A = ℕ} (capacity sh - 4 - length file) 0 in
    omega (arith, length-append file zeros, length-replicate {A = ℕ} (capacity sh - 4 - length file) 0)
