-- Bytes laid at a cursor, one part behind the other, and the pack that they make.
use mathlib.Core.Path.{◌≡◌, refl, sym, ap, ◌∙◌}
use mathlib.Core.Logic.{⊎_elim}
use mathlib.Core.List.{List, [], ◌∷◌, ◌++◌, map, append-nil}
use Prim.Native.Nat.{ℕ, ◌+◌, ◌*◌, ◌/◌, ◌≤◌, ◌<◌}
use native.Mathlib.Nat.{mul-le-mul}
use native.Mathlib.Decide.{ℕ_discrete}
use native.Mathlib.Numerals.{add-one}
use native.Mathlib.Omega.{arith}
use lib.ListN.{length, set, take, drop, length-append, length-drop, length-map, get_or-map}
use lib.Seq.{length-take-le}
use borrow.Author.Tests.{eq-eqb, ne_eqb}
use borrow.Table.Elements.{map_app}
use Rattle.span.specs.Span.{Put}
use Rattle.span.proofs.Putting.{put-none, put_one, put-put, put-more, put_all}
use Rattle.span.proofs.Stretches.{stretch-end}
use Rattle.shape.specs.declared.Shape.{Shape}
use Rattle.shape.specs.Shapes.{Valid, cells}
use Rattle.shape.proofs.Geometry.{third-lt}
use Rattle.stopping.specs.Stopping.{number}
use Rattle.cursor.specs.declared.Cursor.{Cursor}
use Rattle.cursor.specs.Steps.{word_bytes}
use Rattle.pack.specs.declared.Header.{Header}
use Rattle.pack.specs.Packs.{shape_bytes, section_one, head, Packet, packet_bytes, packets, air_pack, air_head, packet_of, up_from, sends, sent_packets, air_size, pack_size}
use Rattle.pack.specs.Packets.{packet_no}
use Rattle.pack.proofs.Sound.{HeaderSent}
use Rattle.pack.proofs.Sent.{up_from-more}
use Rattle.pack.proofs.Written.{packets-length, packets-append, get_or-inside, up_from-length, up_from-at, packet_of-length, sent_packets-length, air-laid, air_head-length, pack-size}
use Rattle.pack_writer.specs.Writing.{Laid, CoordinatesOutcome, coordinates_written, coordinates_outside}
use Rattle.pack_writer.specs.Inner.Writing.{IsCell, packets_from}

-- ---- one part behind the other

pub laid-laid : {s vs mid us after : List ℕ} {c d e : Cursor} → Laid s c vs mid d → Laid mid d us after e → Laid s c (vs ++ us) after e
laid-laid {s} {vs} {mid} {us} {after} {c} {d} {e} first second =
    record {
      put = put-put first.put (rw first.behind at second.put);
      behind = omega (arith, first.behind, second.behind, length-append vs us);
    }

-- n bytes of a source
pub part_length : (src : List ℕ) (from n : ℕ) → from + n ≤ length src → length (take n (drop from src)) ≡ n
part_length src from n h = length-take-le n (drop from src) (omega (arith, length-drop from src))

-- ---- single bytes

pub put_three : (s : List ℕ) (at a b c : ℕ) → at + 3 ≤ length s → Put s at (a ∷ b ∷ c ∷ []) (set (set (set s at a) (at + 1) b) (at + 2) c)
put_three s at a b c h =
    put-more (at + 2) c (put-more (at + 1) b (put_one s at a (omega arith)) refl (omega arith)) refl (omega arith)

-- a packet's third coordinate fits a byte
pub third-fits : (sh : Shape) (n a b c : ℕ) → Valid sh → n < cells sh → IsCell sh n a b c → c < 256
third-fits sh n a b c v h is =
    let low : 9 ≤ sh.l1 * sh.l2 = mul-le-mul v.l1_low v.l2_low in
    let r : n / (sh.l1 * sh.l2) < sh.l3 = third-lt sh n (omega arith) h in
    omega (arith, v.l3_high, is.third)

-- coordinates that were written, where there was room for them
pub coordinates-told : {s after : List ℕ} {c next : Cursor} {x y z : ℕ} → CoordinatesOutcome s c x y z after next → c.at + 3 ≤ length s
    → Laid s c (x ∷ y ∷ z ∷ []) after next
coordinates-told (coordinates_written room l) h = l
coordinates-told (coordinates_outside short same kept) h = absurd (omega arith)

-- ---- packets

-- a packet: its coordinates, then its cell
pub packet-laid : {s mid after : List ℕ} {at d e : Cursor} (xs : List ℕ) (sh : Shape) (n a b c : ℕ) → IsCell sh n a b c
    → Laid s at (a ∷ b ∷ c ∷ []) mid d → Laid mid d (take sh.w (drop (n * sh.w) xs)) after e
    → Laid s at (packet_bytes (packet_of sh xs n)) after e
unfolding packet_bytes packet_of
packet-laid xs sh n a b c is first second = laid-laid (rw (is.first, is.second, is.third) at first) second

-- no packets
pub packets-none : (s : List ℕ) (c : Cursor) → Laid s c (packets []) s c
unfolding packets
packets-none s c = record { put = put-none s c.at; behind = omega arith }

-- packets behind packets
pub packets-laid : {s mid after : List ℕ} {c d e : Cursor} (ks js : List Packet) → Laid s c (packets ks) mid d → Laid mid d (packets js) after e
    → Laid s c (packets (ks ++ js)) after e
packets-laid ks js first second = rw (packets-append ks js) (laid-laid first second)

-- ---- the packets of a run of cells

module _ (sh : Shape) (xs : List ℕ) where
  pub from-none : (n : ℕ) → packets_from sh xs n 0 ≡ []
  unfolding packets_from up_from
  from-none n = refl

  pub from_more : (n k : ℕ) → packets_from sh xs n (k + 1) ≡ packets_from sh xs n k ++ (packet_of sh xs (n + k) ∷ [])
  unfolding packets_from
  from_more n k = rw (add-one k, up_from-more n k) (map_app (packet_of sh xs) (up_from n k) ((n + k) ∷ []))

  pub from-length : (n k : ℕ) → length (packets_from sh xs n k) ≡ k
  unfolding packets_from
  from-length n k = length-map (up_from n k) (packet_of sh xs) ∙ up_from-length n k

  from_at : (n k i : ℕ) → i < k → packet_no (packets_from sh xs n k) i ≡ packet_of sh xs (n + i)
  unfolding packets_from packet_no
  from_at n k i h =
      let size : i < length (map (packet_of sh xs) (up_from n k)) = omega (arith, from-length n k) in
      get_or-inside (map (packet_of sh xs) (up_from n k)) i _ (packet_of sh xs 0) size
      ∙ get_or-map (packet_of sh xs) (up_from n k) i 0 ∙ ap (packet_of sh xs) (up_from-at n k i h)

  pub from_bytes : length xs ≡ sh.w * cells sh → (n k : ℕ) → n + k ≤ cells sh → length (packets (packets_from sh xs n k)) ≡ k * (3 + sh.w)
  from_bytes size n k few =
      packets-length sh.w (packets_from sh xs n k)
      (λ i l. let m : i < k = omega (arith, from-length n k) in rw (from_at n k i m) (packet_of-length sh xs size (n + i) (omega arith)))
      ∙ ap (λ (m : ℕ). m * (3 + sh.w)) (from-length n k)

pub run_none : (s : List ℕ) (c : Cursor) (sh : Shape) (xs : List ℕ) (n k : ℕ) → k ≡ 0 → Laid s c (packets (packets_from sh xs n k)) s c
run_none s c sh xs n k e = rw (e, from-none sh xs n) (packets-none s c)

-- there is room for the next packet of k
pub run_room : {s out : List ℕ} {c next : Cursor} (sh : Shape) (xs : List ℕ) → length xs ≡ sh.w * cells sh → (n j k : ℕ) → n + j ≤ cells sh
    → j < k → c.at + k * (3 + sh.w) ≤ length s → Laid s c (packets (packets_from sh xs n j)) out next → next.at + (3 + sh.w) ≤ length out
run_room sh xs size n j k few more room l =
    omega (arith, l.behind, l.put.kept.size, from_bytes sh xs size n j few, stretch-end j k (3 + sh.w) more)

pub run-all : {s out : List ℕ} {c next : Cursor} (sh : Shape) (xs : List ℕ) (n j k : ℕ) → j ≡ k → Laid s c (packets (packets_from sh xs n j)) out next
    → Laid s c (packets (packets_from sh xs n k)) out next
run-all sh xs n j k e l = rw (sym e) l

-- one packet more
pub run_more : {s mid after : List ℕ} {c d e : Cursor} (sh : Shape) (xs : List ℕ) (n k m j : ℕ) → m ≡ n + k → j ≡ k + 1
    → Laid s c (packets (packets_from sh xs n k)) mid d → Laid mid d (packet_bytes (packet_of sh xs m)) after e
    → Laid s c (packets (packets_from sh xs n j)) after e
unfolding packets
run_more sh xs n k m j same next first second =
    rw (next, from_more sh xs n k)
    (packets-laid (packets_from sh xs n k) (packet_of sh xs (n + k) ∷ []) first (rw (append-nil (packet_bytes (packet_of sh xs (n + k))), ← same) second))

-- ---- the three sections

-- behind section 1 there is room for two counts, with four bytes more where its count is 9
pub section-length : (sh : Shape) (n u room : ℕ) → 17 ≤ room → (n ≡ 9 → 21 ≤ room) → length (section_one sh n u) + 8 ≤ room
unfolding section_one shape_bytes word_bytes
section-length sh n u room few many =
    elim (ℕ_discrete n 9) [
      | yes nine ↦ rw (eq-eqb n 9 nine) (omega (arith, many nine))
      | no other ↦ rw (ne_eqb n 9 other) (omega arith)
    ]

air-headed : {s e : List ℕ} {c₁ : Cursor} {m count : ℕ} (h : Header) → m ≡ count
    → Laid s (record { at = 0 }) (head h ++ (word_bytes 0 ++ word_bytes count)) e c₁ → Laid s (record { at = 0 }) (air_head h m) e c₁
unfolding air_head
air-headed h e l = rw e l

pub sections-laid : {s e after : List ℕ} {c₁ : Cursor} (h : Header) (xs : List ℕ) (count : ℕ) → HeaderSent h
    → count ≡ number (sends h) (cells h.shape) → length xs ≡ h.shape.w * cells h.shape → length s ≡ pack_size h
    → Laid s (record { at = 0 }) (section_one h.shape h.count h.used ++ (word_bytes 0 ++ word_bytes count)) e c₁
    → Put e c₁.at (packets (sent_packets h xs)) after → after ≡ air_pack h (sent_packets h xs)
unfolding head
sections-laid {s} {e} {after} {c₁} h xs count sent same size room start rest =
    let last : Laid e c₁ (packets (sent_packets h xs)) after (record { at = c₁.at + length (packets (sent_packets h xs)) })
    = record { put = rest; behind = refl } in
    let n : length (sent_packets h xs) ≡ count = sent_packets-length h xs ∙ sym same in
    let counted : Laid s (record { at = 0 }) (air_head h (length (sent_packets h xs))) e c₁ = air-headed h n start in
    let parts : air_pack h (sent_packets h xs) ≡ air_head h (length (sent_packets h xs)) ++ packets (sent_packets h xs) = air-laid h (sent_packets h xs) in
    put_all (rw (← parts) at (laid-laid counted last).put) (pack-size h xs sent.counted size ∙ sym room)

before-length : (h : Header) → HeaderSent h → (n : ℕ) → length (head h ++ (word_bytes 0 ++ word_bytes n)) ≡ 12 + h.count
unfolding air_head
before-length h sent n = air_head-length h n sent.counted

-- the pack has room for what stands before its packets, and behind that for them
pub head-room : (h : Header) → HeaderSent h → (17 ≤ pack_size h) × (h.count ≡ 9 → 21 ≤ pack_size h)
unfolding pack_size air_size
head-room h sent = (⊎_elim (λ five. omega arith) (λ nine. omega arith) sent.counted, λ nine. omega arith)

pub rows-room : {s e : List ℕ} {c₁ : Cursor} (h : Header) → HeaderSent h → (n : ℕ) → n ≡ number (sends h) (cells h.shape)
    → Laid s (record { at = 0 }) (section_one h.shape h.count h.used ++ (word_bytes 0 ++ word_bytes n)) e c₁ → length s ≡ pack_size h
    → c₁.at + number (sends h) (cells h.shape) * (3 + h.shape.w) ≤ length e
unfolding pack_size air_size head
rows-room h sent n same l size = omega (arith, l.behind, l.put.kept.size, before-length h sent n)
