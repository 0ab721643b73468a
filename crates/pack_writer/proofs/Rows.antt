-- The rows of a cube as they are sent: the first cells of a row, none behind them, and its two parity cells; so row by row the packets of every cell
-- that is sent.
use Rattle.std.specs.Prelude.{min}
use mathlib.Core.Path.{◌≡◌, refl, sym, ap, ◌∙◌}
use mathlib.Core.Bool.{Bool, true, false, cond}
use mathlib.Core.List.{List, [], ◌++◌, map, append_assoc}
use Prim.Native.Nat.{ℕ, ◌+◌, ◌-◌, ◌*◌, ◌/◌, ◌%◌, ◌≤◌, ◌<◌}
use native.Mathlib.Nat.{add_comm, add-mul, mul-le-mul_right, mul_assoc, mul_comm, mod-lt, mod-add-div, div-div-eq-div-mul, mul-le-mul_left}
use native.Mathlib.Decide.{dec_lt, dec_le}
use native.Mathlib.Omega.{arith}
use lib.Arith.{digits_div, digits_mod}
use lib.Dec.{leb, ltb}
use lib.ListN.{length, get_or, length-append, length-map, get_or-map}
use borrow.Author.Tests.{lt-ltb, le-ltb, le-leb, lt-leb}
use borrow.Table.Elements.{map_app}
use Rattle.span.specs.Span.{Put}
use Rattle.shape.specs.declared.Shape.{Shape}
use Rattle.shape.specs.Shapes.{Valid, both, cells, cell}
use Rattle.stopping.specs.Stopping.{number}
use Rattle.stopping.proofs.Number.{number-inc}
use Rattle.cursor.specs.declared.Cursor.{Cursor}
use Rattle.pack.specs.declared.Header.{Header}
use Rattle.pack.specs.Packs.{Packet, packets, packet_of, up_from, unsent, sends, sent_below, sent_packets}
use Rattle.pack.proofs.Sound.{HeaderSent}
use Rattle.pack.proofs.Sent.{parity-1, parity-2, parity-3, data-unsent, sent_below-run, sent_below-skip, sent_below-length, sent_below-at}
use Rattle.pack.specs.Packets.{packet_no}
use Rattle.pack.proofs.Written.{Sized, packets-length, get_or-inside, up_from-length, packet_of-length}
use Rattle.pack_writer.specs.Writing.{Laid}
use Rattle.pack_writer.specs.Inner.Writing.{IsCell, packets_from, packets_below, row_sent}
use Rattle.pack_writer.proofs.Laying.{packets-none, packets-laid, from_bytes}

-- which places stand behind those in use
min-leb : (u r k a : ℕ) → a < k → leb u (a + r) ≡ leb (min (u - r) k) a
min-leb u r k a l =
    elim (dec_le u (a + r)) [
      | yes few ↦ le-leb u (a + r) few ∙ sym (le-leb (min (u - r) k) a (omega arith))
      | no many ↦ lt-leb u (a + r) (omega arith) ∙ sym (lt-leb (min (u - r) k) a (omega arith))
    ]

-- ---- the cells of a row

module _ (sh : Shape) (v : Valid sh) (q : ℕ) (inside : q < sh.l2 * sh.l3) where
  two : 0 < sh.l2
  two = omega (arith, v.l2_low)

  pub row-second : q % sh.l2 < sh.l2
  row-second = mod-lt q two

  -- place a of row q
  row-cell : (a : ℕ) → cell sh a (q % sh.l2) (q / sh.l2) ≡ sh.l1 * q + a
  unfolding cell
  row-cell a = ap (λ (n : ℕ). a + sh.l1 * n) (mod-add-div q sh.l2) ∙ add_comm a (sh.l1 * q)

  digits : (a : ℕ) → sh.l1 * q + a ≡ q * sh.l1 + a
  digits a = ap (λ (n : ℕ). n + a) (mul_comm sh.l1 q)

  pub row-is-cell : (a : ℕ) → a < sh.l1 → IsCell sh (sh.l1 * q + a) a (q % sh.l2) (q / sh.l2)
  row-is-cell a l =
      let over : (sh.l1 * q + a) / sh.l1 ≡ q = ap (λ (n : ℕ). n / sh.l1) (digits a) ∙ digits_div q l in
      record {
        first = sym (ap (λ (n : ℕ). n % sh.l1) (digits a) ∙ digits_mod q l);
        second = sym (ap (λ (n : ℕ). n % sh.l2) over);
        third = sym (sym (div-div-eq-div-mul (sh.l1 * q + a) sh.l1 sh.l2) ∙ ap (λ (n : ℕ). n / sh.l2) over);
      }

  -- the row lies in the cube
  pub row_inside : sh.l1 * q + sh.l1 ≤ cells sh
  unfolding cells
  row_inside =
      let next : sh.l1 * (q + 1) ≤ sh.l1 * (sh.l2 * sh.l3) = mul-le-mul_left sh.l1 (omega arith) in
      omega (arith, mul_assoc sh.l1 sh.l2 sh.l3)

-- ---- which of them are sent

module _ (h : Header) (sent : HeaderSent h) (q : ℕ) (inside : q < h.shape.l2 * h.shape.l3) where
  abbrev sh : Shape
  sh = h.shape

  abbrev b : ℕ
  b = q % h.shape.l2

  abbrev c : ℕ
  c = q / h.shape.l2

  abbrev rank : ℕ
  rank = (sh.l1 - 2) * (b + (sh.l2 - 2) * c)

  pub row-sent-parity : (sh.l2 - 2 ≤ b → row_sent h q ≡ sh.l1 - 2) × (sh.l3 - 2 ≤ c → row_sent h q ≡ sh.l1 - 2)
  unfolding row_sent both
  row-sent-parity =
      (λ l. rw (le-ltb b (sh.l2 - 2) l), λ l. rw (le-ltb c (sh.l3 - 2) l) (either (ltb b (sh.l2 - 2))))
    where
      either : (t : Bool) → cond (cond t false false) (min (h.used - rank) (sh.l1 - 2)) (sh.l1 - 2) ≡ sh.l1 - 2
      either true = refl
      either false = refl

  pub row-sent-data : b < sh.l2 - 2 → c < sh.l3 - 2 → row_sent h q ≡ min (h.used - rank) (sh.l1 - 2)
  unfolding row_sent both
  row-sent-data l m = rw (lt-ltb b (sh.l2 - 2) l, lt-ltb c (sh.l3 - 2) m)

  -- of the first cells of a row those before the count are sent, and no others
  row-unsent : (a : ℕ) → a < sh.l1 - 2 → unsent h (sh.l1 * q + a) ≡ leb (row_sent h q) a
  row-unsent a l =
      let cells-b : b < sh.l2 = row-second sh sent.valid q inside in
      let la : a < sh.l1 = omega arith in
      ap (unsent h) (sym (row-cell sh sent.valid q inside a))
      ∙ elim (dec_lt b (sh.l2 - 2)) [
        | no more ↦ parity-2 h a b c la cells-b (omega arith) ∙ sym (ap (λ (n : ℕ). leb n a) (row-sent-parity.0 (omega arith)) ∙ lt-leb (sh.l1 - 2) a l)
        | yes second ↦ elim (dec_lt c (sh.l3 - 2)) [
          | no more ↦ parity-3 h a b c la cells-b (omega arith) ∙ sym (ap (λ (n : ℕ). leb n a) (row-sent-parity.1 (omega arith)) ∙ lt-leb (sh.l1 - 2) a l)
          | yes third ↦ data-unsent h a b c la cells-b l second third ∙ min-leb h.used rank (sh.l1 - 2) a l ∙ sym (ap (λ (n : ℕ). leb n a) (row-sent-data second third))
        ]
      ]

  pub row-sent-le : row_sent h q ≤ sh.l1 - 2
  row-sent-le =
      elim (dec_lt b (sh.l2 - 2)) [
        | no more ↦ omega (arith, row-sent-parity.0 (omega arith))
        | yes second ↦ elim (dec_lt c (sh.l3 - 2)) [
          | no more ↦ omega (arith, row-sent-parity.1 (omega arith))
          | yes third ↦ omega (arith, row-sent-data second third)
        ]
      ]

  -- one row more
  row-sent-below : sent_below h (sh.l1 * q + sh.l1) ≡ sent_below h (sh.l1 * q) ++ (up_from (sh.l1 * q) (row_sent h q) ++ up_from (sh.l1 * q + (sh.l1 - 2)) 2)
  row-sent-below =
      let at = sh.l1 * q in
      let s = row_sent h q in
      let k = sh.l1 - 2 in
      let few : s ≤ k = row-sent-le in
      let low : 3 ≤ sh.l1 = sent.valid.l1_low in
      let first : sent_below h (at + s) ≡ sent_below h at ++ up_from at s =
      sent_below-run h at s (λ i l. row-unsent i (omega arith) ∙ lt-leb s i l) in
      let second : sent_below h (at + s + (k - s)) ≡ sent_below h (at + s) =
      sent_below-skip h (at + s) (k - s)
      (λ i l.
      let e : at + s + i ≡ at + (s + i) = omega arith in
      ap (unsent h) e ∙ row-unsent (s + i) (omega arith) ∙ le-leb s (s + i) (omega arith)) in
      let third : sent_below h (at + k + 2) ≡ sent_below h (at + k) ++ up_from (at + k) 2 =
      sent_below-run h (at + k) 2
      (λ i l.
      let e : at + k + i ≡ at + (k + i) = omega arith in
      ap (unsent h) (e ∙ sym (row-cell sh sent.valid q inside (k + i)))
      ∙ parity-1 h (k + i) b c (omega arith) (row-second sh sent.valid q inside) (omega arith)) in
      let e : at + sh.l1 ≡ at + k + 2 = omega arith in
      let f : at + s + (k - s) ≡ at + k = omega arith in
      ap (sent_below h) e ∙ third
      ∙ ap (λ (l : List ℕ). l ++ up_from (at + k) 2) (ap (sent_below h) (sym f) ∙ second ∙ first)
      ∙ append_assoc (sent_below h at) (up_from at s) (up_from (at + k) 2)

  pub row_more : (xs : List ℕ) (m : ℕ) → m ≡ q + 1
      → packets_below h xs (sh.l1 * m)
      ≡ packets_below h xs (sh.l1 * q) ++ (packets_from sh xs (sh.l1 * q) (row_sent h q) ++ packets_from sh xs (sh.l1 * q + (sh.l1 - 2)) 2)
  unfolding packets_below packets_from
  row_more xs m e =
      let f = packet_of h.shape xs in
      let at = sh.l1 * q in
      let next : sh.l1 * m ≡ at + sh.l1 = ap (λ (n : ℕ). sh.l1 * n) e ∙ omega arith in
      ap (λ (n : ℕ). map f (sent_below h n)) next ∙ ap (map f) row-sent-below
      ∙ map_app f (sent_below h at) (up_from at (row_sent h q) ++ up_from (at + (sh.l1 - 2)) 2)
      ∙ ap (λ (l : List Packet). map f (sent_below h at) ++ l) (map_app f (up_from at (row_sent h q)) (up_from (at + (sh.l1 - 2)) 2))

  -- as many packets as before, those of the row, and no more than all
  pub row_count : number (sends h) (sh.l1 * q) + (row_sent h q + 2) ≤ number (sends h) (cells sh)
  row_count =
      let at = sh.l1 * q in
      let rows = ap length row-sent-below in
      omega (
        arith,
        rows,
        sent_below-length h at,
        sent_below-length h (at + sh.l1),
        length-append (sent_below h at) (up_from at (row_sent h q) ++ up_from (at + (sh.l1 - 2)) 2),
        length-append (up_from at (row_sent h q)) (up_from (at + (sh.l1 - 2)) 2),
        up_from-length at (row_sent h q),
        up_from-length (at + (sh.l1 - 2)) 2,
        number-inc (sends h) (at + sh.l1) (cells sh) (row_inside sh sent.valid q inside),
      )

-- ---- the two runs of a row

module _ (h : Header) (q s : ℕ) (same : s ≡ row_sent h q) where
  abbrev size : ℕ
  size = 3 + h.shape.w

  row-size : (row_sent h q + 2) * size ≡ (s - 0) * size + 2 * size
  row-size =
      let whole : row_sent h q ≡ s - 0 = omega arith in
      add-mul (row_sent h q) 2 size ∙ ap (λ (n : ℕ). n * size + 2 * size) whole

  -- room for the row is room for its first run
  pub first-room : (at len : ℕ) → at + (row_sent h q + 2) * size ≤ len → at + (s - 0) * size ≤ len
  first-room at len room = omega (arith, row-size)

  module _ (sent : HeaderSent h) (inside : q < h.shape.l2 * h.shape.l3) (xs : List ℕ) where
    abbrev at : ℕ
    at = h.shape.l1 * q

    -- and then for the second
    pub second-room : {before mid : List ℕ} {c d : Cursor} → length xs ≡ h.shape.w * cells h.shape → s ≤ h.shape.l1 - 2
        → c.at + (row_sent h q + 2) * size ≤ length before
        → Laid before c (packets (packets_from h.shape xs (at + 0) (s - 0))) mid d
        → d.at + (h.shape.l1 - (h.shape.l1 - 2)) * size ≤ length mid
    second-room bytes few room first =
        let low : 3 ≤ h.shape.l1 = sent.valid.l1_low in
        let two : h.shape.l1 - (h.shape.l1 - 2) ≡ 2 = omega arith in
        let all = row_inside h.shape sent.valid q inside in
        rw two (omega (arith, row-size, first.behind, first.put.kept.size, from_bytes h.shape xs bytes (at + 0) (s - 0) (omega arith)))

    pub row-runs : {before mid after : List ℕ} {c d e : Cursor}
        → Laid before c (packets (packets_from h.shape xs (at + 0) (s - 0))) mid d
        → Laid mid d (packets (packets_from h.shape xs (at + (h.shape.l1 - 2)) (h.shape.l1 - (h.shape.l1 - 2)))) after e
        → Laid before c (packets (packets_from h.shape xs at (row_sent h q) ++ packets_from h.shape xs (at + (h.shape.l1 - 2)) 2)) after e
    row-runs first second =
        let low : 3 ≤ h.shape.l1 = sent.valid.l1_low in
        let two : h.shape.l1 - (h.shape.l1 - 2) ≡ 2 = omega arith in
        let whole : s - 0 ≡ row_sent h q = omega arith in
        let begins : at + 0 ≡ at = omega arith in
        packets-laid (packets_from h.shape xs at (row_sent h q)) (packets_from h.shape xs (at + (h.shape.l1 - 2)) 2)
        (rw (whole, begins) at first) (rw two at second)

-- ---- the packets of all rows

module _ (h : Header) (xs : List ℕ) where
  pub below_none : (s : List ℕ) (c : Cursor) → Laid s c (packets (packets_below h xs (h.shape.l1 * 0))) s c
  unfolding packets_below sent_below
  below_none s c = let z : h.shape.l1 * 0 ≡ 0 = omega arith in rw z (packets-none s c)

  below_length : (n : ℕ) → length (packets_below h xs n) ≡ number (sends h) n
  unfolding packets_below
  below_length n = length-map (sent_below h n) (packet_of h.shape xs) ∙ sent_below-length h n

  below-sized : length xs ≡ h.shape.w * cells h.shape → (n : ℕ) → n ≤ cells h.shape → Sized h.shape.w (packets_below h xs n)
  unfolding packets_below packet_no
  below-sized size n few i l =
      let small : i < length (sent_below h n) = omega (arith, length-map (sent_below h n) (packet_of h.shape xs)) in
      let at = sent_below-at h n i small in
      rw (
        get_or-inside (map (packet_of h.shape xs) (sent_below h n)) i (record { a = 0; b = 0; c = 0; bytes = [] }) (packet_of h.shape xs 0) l,
        get_or-map (packet_of h.shape xs) (sent_below h n) i 0,
      )
      (packet_of-length h.shape xs size (get_or (sent_below h n) i 0) (omega (arith, at.below)))

  pub below-bytes : length xs ≡ h.shape.w * cells h.shape → (n : ℕ) → n ≤ cells h.shape
      → length (packets (packets_below h xs n)) ≡ number (sends h) n * (3 + h.shape.w)
  below-bytes size n few =
      packets-length h.shape.w (packets_below h xs n) (below-sized size n few) ∙ ap (λ (k : ℕ). k * (3 + h.shape.w)) (below_length n)

  below_all : (n : ℕ) → n ≡ h.shape.l2 * h.shape.l3 → packets_below h xs (h.shape.l1 * n) ≡ sent_packets h xs
  unfolding packets_below sent_packets cells
  below_all n e =
      ap (λ (k : ℕ). map (packet_of h.shape xs) (sent_below h k))
      (ap (λ (k : ℕ). h.shape.l1 * k) e ∙ sym (mul_assoc h.shape.l1 h.shape.l2 h.shape.l3))

  pub below_put : {s after : List ℕ} {c next : Cursor} (n : ℕ) → n ≡ h.shape.l2 * h.shape.l3
      → Laid s c (packets (packets_below h xs (h.shape.l1 * n))) after next → Put s c.at (packets (sent_packets h xs)) after
  below_put n e l = rw (below_all n e) at l.put

  -- there is room for the next row, and it is laid behind those before it
  module _ (sent : HeaderSent h) (size : length xs ≡ h.shape.w * cells h.shape) (q : ℕ) (inside : q < h.shape.l2 * h.shape.l3) where
    pub rows-room : {s out : List ℕ} {c next : Cursor} → c.at + number (sends h) (cells h.shape) * (3 + h.shape.w) ≤ length s
        → Laid s c (packets (packets_below h xs (h.shape.l1 * q))) out next → next.at + (row_sent h q + 2) * (3 + h.shape.w) ≤ length out
    rows-room room l =
        let w = 3 + h.shape.w in
        let n = number (sends h) (h.shape.l1 * q) in
        let many : (n + (row_sent h q + 2)) * w ≤ number (sends h) (cells h.shape) * w = mul-le-mul_right w (row_count h sent q inside) in
        omega (
          arith,
          l.behind,
          l.put.kept.size,
          add-mul n (row_sent h q + 2) w,
          below-bytes size (h.shape.l1 * q) (omega (arith, row_inside h.shape sent.valid q inside)),
        )

    pub rows_more : {s mid after : List ℕ} {c d e : Cursor} (m : ℕ) → m ≡ q + 1 → Laid s c (packets (packets_below h xs (h.shape.l1 * q))) mid d
        → Laid mid d (packets (packets_from h.shape xs (h.shape.l1 * q) (row_sent h q) ++ packets_from h.shape xs (h.shape.l1 * q + (h.shape.l1 - 2)) 2)) after e
        → Laid s c (packets (packets_below h xs (h.shape.l1 * m))) after e
    rows_more m e first second =
        rw (row_more h sent q inside xs m e) (packets-laid (packets_below h xs (h.shape.l1 * q)) _ first second)
