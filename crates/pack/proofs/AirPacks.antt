-- An air pack and its packets: a pack that was read is the air pack of the packets that stand in it, an air pack is read as its packets, and it
-- is made of bytes where they are.
use mathlib.Core.Path.{◌≡◌, refl, sym, ap, ◌∙◌}
use mathlib.Core.Bool.{Bool, true, false, cond}
use mathlib.Core.Logic.{⊎_elim}
use mathlib.Core.List.{List, [], ◌∷◌, ◌++◌, map, append_assoc, append-nil}
use Prim.Native.Nat.{ℕ, zero, suc, ◌+◌, ◌*◌, ◌/◌, ◌%◌, ◌^◌, ◌≤◌, ◌<◌}
use native.Mathlib.Nat.{add-zero, zero-add, suc-mul, zero-mul, add-mul}
use native.Mathlib.Decide.{dec_lt}
use native.Mathlib.Numerals.{add-one}
use native.Mathlib.Omega.{arith}
use lib.Dec.{eqb}
use lib.ListN.{length, get_or, take, drop, length-drop, length-map, take-append-drop, get_or-map, get_or-eq_default}
use lib.Seq.{length-take-le, get_or-take, get_or-drop, drop-cons, drop-drop, drop-length, ext_get_or}
use borrow.Author.Tests.{eqb-true}
use Rattle.answer.specs.Values.{passes}
use Rattle.answer.proofs.Values.{passes-injective, check-passed, then-passed}
use Rattle.shape.specs.declared.Shape.{Shape}
use Rattle.shape.specs.Shapes.{Valid, data_cells, shape_checked}
use Rattle.shape.proofs.Geometry.{cell-lt-cells}
use Rattle.span.proofs.Stretches.{stretch-end}
use Rattle.cursor.specs.declared.Cursor.{Cursor}
use Rattle.pack.specs.declared.Section.{Section}
use Rattle.pack.specs.declared.Header.{Header}
use Rattle.cursor.specs.Steps.{word, word_bytes}
use Rattle.pack.specs.Packs.{shape_bytes, section_one, head, Packet, packet_bytes, packets, air_pack, up_from, sends}
use Rattle.pack.specs.Reading.{shape_at, given_at, used_by, header_with, header_for, headed, header_of, packet_size, air_behind, air_of, plain_air_of}
use Rattle.pack.specs.Packets.{packet_at, packet_in, packets_in, packet_no, source, Named, Stands}
use Rattle.pack.proofs.Sound.{count-passed, bytes-passed, end-passed, HeaderSound, header-sound, air-sound}
use Rattle.pack.proofs.Sent.{all-sent}
use Rattle.pack.proofs.Naming.{air-named}
use Rattle.pack.proofs.Written.{Sized, Carries, air-read, get_or-inside, up_from-length, up_from-at}
use Rattle.pack.proofs.Standing.{packet-standing}
use Rattle.pack.proofs.DataStrings.{word-bytes, append-bytes, word_small}

-- ---- the packets that stand in a section

module _ (p : List ℕ) (h : Header) (s : Section) where
  pub packets_in-length : length (packets_in p h s) ≡ s.count
  unfolding packets_in
  packets_in-length = length-map (up_from 0 s.count) (packet_in p h s) ∙ up_from-length 0 s.count

  pub packets_in-at : (i : ℕ) → i < s.count → packet_no (packets_in p h s) i ≡ packet_in p h s i
  unfolding packets_in packet_no
  packets_in-at i l =
      let size : i < length (map (packet_in p h s) (up_from 0 s.count)) = omega (arith, packets_in-length) in
      get_or-inside (map (packet_in p h s) (up_from 0 s.count)) i _ (packet_in p h s 0) size
      ∙ get_or-map (packet_in p h s) (up_from 0 s.count) i 0 ∙ ap (packet_in p h s) (up_from-at 0 s.count i l ∙ omega arith)

-- all parts of a packet are bytes
pub record Octets (k : Packet) : Type 0 where
  pub a_byte : k.a < 256
  pub b_byte : k.b < 256
  pub c_byte : k.c < 256
  pub cell_bytes : (i : ℕ) → get_or k.bytes i 0 < 256

-- a packet of a pack that was read: W bytes, and every byte below 256
module _ (p : List ℕ) (h : Header) (s : Section) (read : air_of p ≡ passes (h, s)) where
  packet-inside : (i : ℕ) → i < s.count → packet_at h s i + (3 + h.shape.w) ≤ length p
  unfolding packet_at packet_size
  packet-inside i l = omega (arith, (air-sound p h s read).ends, stretch-end i s.count (packet_size h) l)

  pub packet_in-size : (i : ℕ) → i < s.count → length (packet_in p h s i).bytes ≡ h.shape.w
  unfolding packet_in
  packet_in-size i l =
      let q = drop (packet_at h s i + 3) p in
      length-take-le h.shape.w q (omega (arith, packet-inside i l, length-drop (packet_at h s i + 3) p))

  pub packets_in-sized : Sized h.shape.w (packets_in p h s)
  packets_in-sized i l =
      let k : i < s.count = omega (arith, packets_in-length p h s) in
      rw (packets_in-at p h s i k) (packet_in-size i k)

  packet-byte : ((k : ℕ) → get_or p k 0 < 256) → (i : ℕ) → i < s.count → (j : ℕ) → get_or (packet_in p h s i).bytes j 0 < 256
  unfolding packet_in
  packet-byte small i l j =
      let q = drop (packet_at h s i + 3) p in
      elim (dec_lt j h.shape.w) [
        | yes less ↦ rw (get_or-take h.shape.w q j 0 less, get_or-drop (packet_at h s i + 3) p j 0) (small (packet_at h s i + 3 + j))
        | no more ↦ rw (get_or-eq_default (take h.shape.w q) 0 {n = j} (omega (arith, packet_in-size i l))) (omega arith)
      ]

  pub packet_in-bytes : ((k : ℕ) → get_or p k 0 < 256) → (i : ℕ) → i < s.count → Octets (packet_in p h s i)
  unfolding packet_in
  packet_in-bytes small i l =
      record {
        a_byte = small (packet_at h s i);
        b_byte = small (packet_at h s i + 1);
        c_byte = small (packet_at h s i + 2);
        cell_bytes = packet-byte small i l;
      }

  pub air-stands : ((k : ℕ) → get_or p k 0 < 256) → (i : ℕ) → i < s.count → Stands p h s i
  unfolding packet_size
  air-stands small i l =
      let sound = air-sound p h s read in
      let v = sound.header.valid in
      record {
        l1_high = v.l1_high;
        l2_high = v.l2_high;
        w_high = v.w_high;
        inside = packet-inside i l;
      }

  -- check 11: all packets stand in the pack, and name a cell where a, b and c are below their lengths, and no cell is unsent
  pub named-in-range : (i : ℕ) → Named p h s i
      → ((packet_in p h s i).a < h.shape.l1) × ((packet_in p h s i).b < h.shape.l2) × ((packet_in p h s i).c < h.shape.l3)
  unfolding packet_in
  named-in-range i n = (n.range.first, n.range.second, n.range.third)

  pub in-range-named : ((k : ℕ) → get_or p k 0 < 256) → h.used ≡ data_cells h.shape → (i : ℕ) → i < s.count
      → (packet_in p h s i).a < h.shape.l1 → (packet_in p h s i).b < h.shape.l2 → (packet_in p h s i).c < h.shape.l3 → Named p h s i
  unfolding packet_in source sends
  in-range-named small full i l a b c =
      let sent = all-sent h full _ (cell-lt-cells h.shape _ _ _ a b c) in
      air-named p h s i read l (record { first = a; second = b; third = c; sent = rw sent })

-- ---- a pack that was read

drop-step : (q : List ℕ) (k m : ℕ) → m ≡ k + 1 → k < length q → drop k q ≡ get_or q k 0 ∷ drop m q
drop-step q k m e l = rw (e, add-one k) (drop-cons q k 0 l)

module _ (q : List ℕ) (small : (i : ℕ) → get_or q i 0 < 256) where
  -- four bytes of a pack are those of the word that they hold
  pub word-laid : (k : ℕ) → k + 4 ≤ length q → drop k q ≡ word_bytes (word q k) ++ drop (k + 4) q
  unfolding word
  word-laid k room =
      rw (
        word-bytes _ _ _ _ (small k) (small (k + 1)) (small (k + 2)) (small (k + 3)),
        drop-step q k (k + 1) refl (omega arith),
        drop-step q (k + 1) (k + 2) (omega arith) (omega arith),
        drop-step q (k + 2) (k + 3) (omega arith) (omega arith),
        drop-step q (k + 3) (k + 4) (omega arith) (omega arith),
      )

  -- five bytes are those of the shape that they hold
  shape-laid : (k : ℕ) → k + 5 ≤ length q → drop k q ≡ shape_bytes (shape_at q k) ++ drop (k + 5) q
  unfolding shape_bytes shape_at
  shape-laid k room =
      let x = get_or q (k + 3) 0 in
      let y = get_or q (k + 4) 0 in
      let low : (x + 256 * y) % 256 ≡ x = omega (arith, small (k + 3)) in
      let high : (x + 256 * y) / 256 ≡ y = omega (arith, small (k + 3)) in
      rw (
        low,
        high,
        drop-step q k (k + 1) refl (omega arith),
        drop-step q (k + 1) (k + 2) (omega arith) (omega arith),
        drop-step q (k + 2) (k + 3) (omega arith) (omega arith),
        drop-step q (k + 3) (k + 4) (omega arith) (omega arith),
        drop-step q (k + 4) (k + 5) (omega arith) (omega arith),
      )

module _ (p : List ℕ) (h : Header) (s : Section) where
  packet-laid : (i : ℕ) → packet_at h s i + (3 + h.shape.w) ≤ length p
      → drop (packet_at h s i) p ≡ packet_bytes (packet_in p h s i) ++ drop (packet_at h s i + (3 + h.shape.w)) p
  unfolding packet_bytes packet_in
  packet-laid i room =
      let at = packet_at h s i in
      let e : at + (3 + h.shape.w) ≡ at + 3 + h.shape.w = omega arith in
      rw (
        drop-step p at (at + 1) refl (omega arith),
        drop-step p (at + 1) (at + 2) (omega arith) (omega arith),
        drop-step p (at + 2) (at + 3) (omega arith) (omega arith),
        e,
        ← drop-drop h.shape.w (at + 3) p,
        take-append-drop h.shape.w (drop (at + 3) p),
      )

  -- the packets from one on, up to the pack's end
  packets-laid : (k j : ℕ) → s.at + (j + k) * (3 + h.shape.w) ≡ length p
      → drop (packet_at h s j) p ≡ packets (map (packet_in p h s) (up_from j k))
  unfolding packets up_from packet_at packet_size
  packets-laid zero j e =
      let here : s.at + j * (3 + h.shape.w) ≡ length p = ap (λ (n : ℕ). s.at + n * (3 + h.shape.w)) (sym (add-zero j)) ∙ e in
      rw here (drop-length p)
  packets-laid (suc k) j e =
      let size = 3 + h.shape.w in
      let n : j + suc k ≡ suc j + k = omega arith in
      let ends : s.at + (suc j + k) * size ≡ length p = ap (λ (m : ℕ). s.at + m * size) (sym n) ∙ e in
      let next : s.at + suc j * size ≡ s.at + j * size + size = omega (arith, suc-mul j size) in
      let rest = packets-laid k (suc j) ends in
      let room : s.at + j * size + size ≤ length p = omega (arith, add-mul (suc j) k size) in
      packet-laid j room ∙ ap (λ (l : List ℕ). packet_bytes (packet_in p h s j) ++ l) (ap (λ (m : ℕ). drop m p) (sym next) ∙ rest)

-- section 1 of a pack that was read stands at its beginning, and the cursor behind it
record HeadAt (p : List ℕ) (g : Header) (c : Cursor) : Type 0 where
  count : word p 0 ≡ g.count
  shape : g.shape ≡ shape_at p 4
  used : g.count ≡ 9 → word p 9 ≡ g.used
  cursor : c.at ≡ 4 + g.count
  long : 4 + g.count ≤ length p

given-used : (sh : Shape) (p : List ℕ) (n : ℕ) → n ≡ 9 → used_by sh n (given_at p 4 n) ≡ word p 9
unfolding used_by given_at
given-used sh p n e = rw e

head_at : (p : List ℕ) (g : Header) (c : Cursor) → header_of p ≡ passes (g, c) → HeadAt p g c
unfolding header_of headed header_with
head_at p g c e =
    let n = word p 0 in
    let (_, judged) = count-passed p (record { at = 0 }) (g, c) _ e in
    let (_, needed) = check-passed _ 7 _ (g, c) judged in
    let (long, read) = bytes-passed p (record { at = 4 }) (g, c) _ _ needed in
    let (z, _, rest) = then-passed (shape_checked (shape_at p 4)) _ (g, c) read in
    let (_, used) = check-passed _ 10 _ (g, c) rest in
    let (_, told) = check-passed _ 19 _ (g, c) used in
    let same : ◌≡◌ {A = Header × Cursor} (header_with (shape_at p 4) n (given_at p 4 n), record { at = 4 + n }) (g, c) = passes-injective _ _ told in
    let count : n ≡ g.count = ap (λ (x : Header × Cursor). x.0.count) same in
    let behind : 4 + n ≡ c.at = ap (λ (x : Header × Cursor). x.1.at) same in
    let given : used_by (shape_at p 4) n (given_at p 4 n) ≡ g.used = ap (λ (x : Header × Cursor). x.0.used) same in
    record {
      count = count;
      shape = ap (λ (x : Header × Cursor). x.0.shape) (sym same);
      used = λ nine. sym (given-used (shape_at p 4) p n (count ∙ nine)) ∙ given;
      cursor = omega arith;
      long = omega arith;
    }

-- so the pack begins with the bytes of its header
head-back : (p : List ℕ) (g : Header) (c : Cursor) → header_of p ≡ passes (g, c) → ((i : ℕ) → get_or p i 0 < 256) → p ≡ head g ++ drop (4 + g.count) p
unfolding head section_one
head-back p g c e small =
    let at = head_at p g c e in
    let long = at.long in
    word-laid p small 0 (omega arith)
    ∙ ⊎_elim
    (λ five. let n : word p 0 ≡ 5 = at.count ∙ five in
    rw (n, five, shape-laid p small 4 (omega arith), ← at.shape) (plain (shape_bytes g.shape) (drop 9 p)))
    (λ nine. let n : word p 0 ≡ 9 = at.count ∙ nine in
    rw (n, nine, shape-laid p small 4 (omega arith), ← at.shape, word-laid p small 9 (omega arith), at.used nine) (behind (word_bytes 9) (shape_bytes g.shape) (word_bytes g.used) (drop 13 p)))
    (header-sound p g c e).counted
  where
    plain : (xs ys : List ℕ) → word_bytes 5 ++ (xs ++ ys) ≡ (word_bytes 5 ++ (xs ++ [])) ++ ys
    plain xs ys = simp (append_assoc, append-nil)

    behind : (vs xs ys zs : List ℕ) → vs ++ (xs ++ (ys ++ zs)) ≡ (vs ++ (xs ++ ys)) ++ zs
    behind vs xs ys zs = simp append_assoc

-- where the parts of a pack stand that was read
record Parted (p : List ℕ) (h : Header) (s : Section) : Type 0 where
  header : p ≡ head h ++ drop (4 + h.count) p
  none : word p (4 + h.count) ≡ 0
  at : s.at ≡ 12 + h.count
  count : s.count ≡ word p (8 + h.count)
  long : 12 + h.count ≤ length p

air-parted : (p : List ℕ) (h : Header) (s : Section) → ((i : ℕ) → get_or p i 0 < 256) → air_of p ≡ passes (h, s) → Parted p h s
unfolding air_of air_behind
air-parted p h s small e =
    let ((g, c), passed, rest) = then-passed (header_of p) _ (h, s) e in
    let nine : c.at ≡ 4 + g.count = (head_at p g c passed).cursor in
    let (_, judged) = count-passed p c (h, s) _ rest in
    let (t, third) = check-passed _ 9 _ (h, s) judged in
    let (room, needed) = count-passed p _ (h, s) _ third in
    let n = word p (c.at + 4) in
    let (_, ended) = bytes-passed p _ (h, s) (n * packet_size g) _ needed in
    let (_, told) = end-passed p _ (h, s) _ ended in
    let same : ◌≡◌ {A = Header × Section} (g, record { at = c.at + 4 + 4; count = n }) (h, s) = passes-injective _ _ told in
    let header : g ≡ h = ap (λ (x : Header × Section). x.0) same in
    let eight : c.at + 4 ≡ 8 + g.count = omega arith in
    let twelve : c.at + 4 + 4 ≡ 12 + g.count = omega arith in
    rw (sym header) (record {
      header = head-back p g c passed small;
      none = ap (word p) (sym nine) ∙ eqb-true (word p c.at) 0 t;
      at = ap (λ (x : Header × Section). x.1.at) (sym same) ∙ twelve;
      count = ap (λ (x : Header × Section). x.1.count) (sym same) ∙ ap (word p) eight;
      long = omega (arith, room, nine);
    })

air-count : (p : List ℕ) (h : Header) (s : Section) → air_of p ≡ passes (h, s) → word p 0 ≡ h.count
unfolding air_of air_behind
air-count p h s e =
    let ((g, c), passed, rest) = then-passed (header_of p) _ (h, s) e in
    let (_, judged) = count-passed p c (h, s) _ rest in
    let (_, third) = check-passed _ 9 _ (h, s) judged in
    let (_, needed) = count-passed p _ (h, s) _ third in
    let (_, ended) = bytes-passed p _ (h, s) _ _ needed in
    let (_, told) = end-passed p _ (h, s) _ ended in
    (head_at p g c passed).count ∙ ap (λ (x : Header × Section). x.0.count) (passes-injective _ _ told)

-- a pack that was read is the air pack of its header and of the packets that stand in it
pub air-back : (p : List ℕ) (h : Header) (s : Section) → air_of p ≡ passes (h, s) → ((i : ℕ) → get_or p i 0 < 256) → p ≡ air_pack h (packets_in p h s)
unfolding air_pack packets_in packet_at packet_size
air-back p h s read small =
    let parted = air-parted p h s small read in
    let n = h.count in
    let long = parted.long in
    let ends : s.at + (0 + s.count) * (3 + h.shape.w) ≡ length p
    = ap (λ (n : ℕ). s.at + n * (3 + h.shape.w)) (zero-add s.count) ∙ (air-sound p h s read).ends in
    let begins : packet_at h s 0 ≡ 12 + n = omega (arith, parted.at, zero-mul (packet_size h)) in
    let body : drop (12 + n) p ≡ packets (map (packet_in p h s) (up_from 0 s.count)) = ap (λ (k : ℕ). drop k p) (sym begins) ∙ packets-laid p h s s.count 0 ends in
    let count : word p (8 + n) ≡ length (map (packet_in p h s) (up_from 0 s.count)) = sym parted.count ∙ sym (packets_in-length p h s) in
    let eight : 4 + n + 4 ≡ 8 + n = omega arith in
    let twelve : 8 + n + 4 ≡ 12 + n = omega arith in
    parted.header
    ∙ ap (λ (l : List ℕ). head h ++ l)
    (word-laid p small (4 + n) (omega arith)
    ∙ rw (eight, word-laid p small (8 + n) (omega arith), twelve, parted.none, count, body))

-- ---- a pack that was written

-- an air pack is read as the packets that it was made of
pub packets-back : (h : Header) (ps : List Packet) → HeaderSound h → Sized h.shape.w ps → length ps < 2 ^ 32 → (s : Section)
    → air_of (air_pack h ps) ≡ passes (h, s) → packets_in (air_pack h ps) h s ≡ ps
unfolding packet_no
packets-back h ps sound all few s read =
    let p = air_pack h ps in
    let (s', read', carries') = air-read h ps sound all few in
    let same : s' ≡ s = ap (λ (x : Header × Section). x.1) (passes-injective _ _ (sym read' ∙ read)) in
    let carries : Carries p h s ps = rw same at carries' in
    let size : length (packets_in p h s) ≡ length ps = packets_in-length p h s ∙ carries.count in
    ext_get_or (record { a = 0; b = 0; c = 0; bytes = [] }) (packets_in p h s) ps size
    (λ i l.
    let few : i < length ps = omega arith in
    packets_in-at p h s i (omega (arith, carries.count)) ∙ packet-standing p h s ps read carries all i few)

-- the text twin's pack has document 01's own header
pub plain-header : (p : List ℕ) (h : Header) (s : Section) → plain_air_of p ≡ passes (h, s) → h ≡ header_for h.shape
unfolding header_for header_with used_by plain_air_of
plain-header p h s e =
    let (_, judged) = count-passed p (record { at = 0 }) (h, s) _ e in
    let (t, read) = check-passed _ 7 _ (h, s) judged in
    let five : h.count ≡ 5 = sym (air-count p h s read) ∙ eqb-true (word p 0) 5 t in
    let sound = (air-sound p h s read).header in
    rw (five, sound.plain five, sound.measured)

-- ---- an air pack is made of bytes

shape-small : (sh : Shape) → Valid sh → (i : ℕ) → get_or (shape_bytes sh) i 0 < 256
unfolding shape_bytes
shape-small sh v zero = omega (arith, v.l1_high)
shape-small sh v (suc zero) = omega (arith, v.l2_high)
shape-small sh v (suc (suc zero)) = omega (arith, v.l3_high)
shape-small sh v (suc (suc (suc zero))) = omega arith
shape-small sh v (suc (suc (suc (suc zero)))) = omega (arith, v.w_high)
shape-small sh v (suc (suc (suc (suc (suc i))))) = omega arith

packet-small : (k : Packet) → Octets k → (i : ℕ) → get_or (packet_bytes k) i 0 < 256
unfolding packet_bytes
packet-small k o zero = o.a_byte
packet-small k o (suc zero) = o.b_byte
packet-small k o (suc (suc zero)) = o.c_byte
packet-small k o (suc (suc (suc i))) = o.cell_bytes i

packets-small : (ps : List Packet) → ((i : ℕ) → i < length ps → Octets (packet_no ps i)) → (i : ℕ) → get_or (packets ps) i 0 < 256
unfolding packets packet_no
packets-small [] all i = omega arith
packets-small (k ∷ ks) all i =
    append-bytes (packet_bytes k) (packets ks) (packet-small k (all 0 (omega arith)))
    (packets-small ks (λ (j : ℕ) (l : j < length ks). all (suc j) (omega arith))) i

head_small : (h : Header) → HeaderSound h → (i : ℕ) → get_or (head h) i 0 < 256
unfolding head section_one
head_small h sound =
    append-bytes (word_bytes h.count) _ (word_small h.count)
    (append-bytes (shape_bytes h.shape) _ (shape-small h.shape sound.valid) (maybe (eqb h.count 9)))
  where
    maybe : (b : Bool) → (i : ℕ) → get_or (cond b (word_bytes h.used) []) i 0 < 256
    maybe true i = word_small h.used i
    maybe false i = omega arith

-- where its packets are
pub air_pack-bytes : (h : Header) (ps : List Packet) → HeaderSound h → ((i : ℕ) → i < length ps → Octets (packet_no ps i)) → (i : ℕ)
    → get_or (air_pack h ps) i 0 < 256
unfolding air_pack
air_pack-bytes h ps sound all =
    append-bytes (head h) _ (head_small h sound)
    (append-bytes (word_bytes 0) _ (word_small 0)
    (append-bytes (word_bytes (length ps)) (packets ps) (word_small (length ps)) (packets-small ps all)))
