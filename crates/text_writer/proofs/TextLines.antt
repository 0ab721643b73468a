-- The lines of a text one behind the other, as a writer puts them: so many packets' lines, and how long each text is.
use Rattle.std.specs.Prelude.{Option, Some, None}
use mathlib.Core.Path.{◌≡◌, refl, sym, ap, subst, ◌∙◌}
use mathlib.Core.List.{List, [], ◌∷◌, ◌++◌, map, append-nil}
use Prim.Native.Nat.{ℕ, zero, suc, ◌+◌, ◌*◌, ◌-◌, ◌≤◌, ◌<◌, min}
use native.Mathlib.Nat.{min-eq_left, suc-mul, mul-le-mul_right}
use native.Mathlib.Decide.{dec_lt}
use native.Mathlib.Numerals.{add-one}
use native.Mathlib.Omega.{arith}
use lib.Dec.{eqb}
use lib.ListN.{length, get_or, set, take, drop, length-append}
use lib.Seq.{take-suc, paste, paste-zero}
use borrow.Table.Elements.{map_app}
use Rattle.answer.proofs.Tuples.{some-four}
use Rattle.answer.specs.declared.Refusal.{Refusal}
use Rattle.answer.specs.Values.{Checked, passes, fails, check, and_then, checked, refusal}
use Rattle.answer.proofs.Values.{checked-fails}
use Rattle.shape.specs.declared.Shape.{Shape}
use Rattle.pack.specs.declared.Header.{Header}
use Rattle.pack.specs.declared.Section.{Section}
use Rattle.pack.specs.Packs.{Packet, up_from}
use Rattle.pack.specs.Packets.{packet_at, packet_in, packets_in, Stands, PartsOutcome}
use Rattle.pack.specs.Reading.{packet_size, air_of, plain_air_of}
use Rattle.pack.proofs.Sound.{air-sound}
use Rattle.pack.proofs.Sent.{up_from-more}
use Rattle.pack.proofs.Naming.{parts-told}
use Rattle.pack.proofs.AirPacks.{packet_in-size}
use Rattle.printing.specs.Text.{ascii, decimal, hex_byte, numbered, triple, number_line, shape_line}
use Rattle.printing.specs.Append.{Appended}
use Rattle.printing.proofs.Appending.{append-append, append-nothing, append-paste, append-end, append-all, paste_more}
use Rattle.printing.proofs.Numerals.{length-decimal, length-shape_line}
use Rattle.text.specs.Form.{hex_bytes, packet_line, packet_lines, first_line, text_of}
use Rattle.text.specs.Text.{text_in, write_text_checked, WriteTextOutcome, write_refused}
use Rattle.text.proofs.FirstTurn.{packet_lines-append}

-- ---- the lengths of lines

triple-length : (label : List ℕ) (a b c : ℕ)
    → length (triple label a b c) ≡ length label + 2 + length (decimal a) + length (decimal b) + length (decimal c)
unfolding triple numbered
triple-length label a b c =
    omega
    (arith, length-append (label ++ decimal a) ((ascii " " ++ decimal b) ++ (ascii " " ++ decimal c)), length-append label (decimal a), length-append (ascii " " ++ decimal b) (ascii " " ++ decimal c))

pub hex_bytes-length : (bs : List ℕ) → length (hex_bytes bs) ≡ 3 * length bs
unfolding hex_bytes hex_byte
hex_bytes-length [] = refl
hex_bytes-length (b ∷ bs) = omega (arith, hex_bytes-length bs)

pub first_line-length : (sh : Shape)
    → length (first_line sh) ≡ 10 + length (decimal sh.l1) + length (decimal sh.l2) + length (decimal sh.l3) + length (decimal sh.w)
unfolding first_line shape_line number_line numbered
first_line-length sh =
    let lengths = triple (ascii "shape ") sh.l1 sh.l2 sh.l3 in
    let number = ascii " " ++ decimal sh.w in
    omega
    (arith, length-append lengths (number ++ ascii "\n"), triple-length (ascii "shape ") sh.l1 sh.l2 sh.l3, length-append number (ascii "\n"))

pub packet_line-length : (k : Packet)
    → length (packet_line k) ≡ 10 + length (decimal k.a) + length (decimal k.b) + length (decimal k.c) + 3 * length k.bytes
unfolding packet_line
packet_line-length k =
    let numbers = triple (ascii "packet ") k.a k.b k.c in
    omega
    (arith, length-append numbers (hex_bytes k.bytes ++ ascii "\n"), triple-length (ascii "packet ") k.a k.b k.c, length-append (hex_bytes k.bytes) (ascii "\n"), hex_bytes-length k.bytes)

-- ---- a packet of a pack that was read

pub first_line-le : (sh : Shape) → length (first_line sh) ≤ 90
unfolding first_line
first_line-le sh = length-shape_line sh.l1 sh.l2 sh.l3 sh.w

pub line-le : (p : List ℕ) (h : Header) (s : Section) → air_of p ≡ passes (h, s) → (i : ℕ) → i < s.count
    → length (packet_line (packet_in p h s i)) ≤ 3142
line-le p h s read i l =
    let k = packet_in p h s i in
    omega
    (arith, packet_line-length k, length-decimal k.a, length-decimal k.b, length-decimal k.c, packet_in-size p h s read i l, (air-sound p h s read).header.valid.w_high)

-- every packet of a pack that was read stands in it
stands : (p : List ℕ) (h : Header) (s : Section) → air_of p ≡ passes (h, s) → (i : ℕ) → i < s.count → Stands p h s i
unfolding packet_at
stands p h s read i l =
    let sound = air-sound p h s read in
    let v = sound.header.valid in
    record {
      l1_high = v.l1_high;
      l2_high = v.l2_high;
      w_high = v.w_high;
      inside = omega (arith, sound.ends, suc-mul i (packet_size h), mul-le-mul_right (packet_size h) l);
    }

module _ (p : List ℕ) (h : Header) (s : Section) (read : air_of p ≡ passes (h, s)) (i : ℕ) (l : i < s.count)
    (r : Option (ℕ × ℕ × ℕ × ℕ)) (outcome : PartsOutcome p h s i r) where
  told : r ≡ Some ((packet_in p h s i).a, (packet_in p h s i).b, (packet_in p h s i).c, (packet_at h s i + 3))
  told = parts-told p h s i r outcome (stands p h s read i l)

  pub no-parts : r ≡ None → ⊥
  no-parts e = let t = told in let z : ◌≡◌ {A = ℕ} 0 1 = cc in omega arith

  -- its parts, and where its bytes begin
  pub parts-read : (a b c from : ℕ) → r ≡ Some (a, b, c, from)
      → (a ≡ (packet_in p h s i).a) × (b ≡ (packet_in p h s i).b) × (c ≡ (packet_in p h s i).c) × (from ≡ packet_at h s i + 3)
  parts-read a b c from e =
      let k = packet_in p h s i in
      some-four a k.a b k.b c k.c from (packet_at h s i + 3) (sym e ∙ told)

  pub line-length : (a b c from x y z : ℕ) → r ≡ Some (a, b, c, from) → x ≡ length (decimal a) → y ≡ length (decimal b) → z ≡ length (decimal c)
      → 10 + (x + y + z) + 3 * h.shape.w ≡ length (packet_line (packet_in p h s i))
  line-length a b c from x y z e dx dy dz =
      let (ea, eb, ec, _) = parts-read a b c from e in
      omega
      (arith, packet_line-length (packet_in p h s i), packet_in-size p h s read i l, dx ∙ ap (λ (n : ℕ). length (decimal n)) ea, dy ∙ ap (λ (n : ℕ). length (decimal n)) eb, dz ∙ ap (λ (n : ℕ). length (decimal n)) ec)

-- ---- the lines of the first packets

-- the lines of the first n packets of a sequence
unfoldable pub lines_to : (ℕ → Packet) → ℕ → List ℕ
lines_to k zero = []
lines_to k (suc n) = lines_to k n ++ packet_line (k n)

map_more : (k : ℕ → Packet) (n : ℕ) → map k (up_from 0 (suc n)) ≡ map k (up_from 0 n) ++ (k n ∷ [])
map_more k n =
    let z : 0 + n ≡ n = omega arith in
    rw (up_from-more 0 n, map_app k (up_from 0 n) ((0 + n) ∷ []), z)

lines_to-map : (k : ℕ → Packet) (n : ℕ) → lines_to k n ≡ packet_lines (map k (up_from 0 n))
unfolding lines_to packet_lines up_from
lines_to-map k zero = refl
lines_to-map k (suc n) =
    let line : packet_lines (k n ∷ []) ≡ packet_line (k n) = append-nil (packet_line (k n)) in
    ap (λ (l : List ℕ). l ++ packet_line (k n)) (lines_to-map k n)
    ∙ sym (ap packet_lines (map_more k n) ∙ packet_lines-append (map k (up_from 0 n)) (k n ∷ []) ∙ ap (λ (l : List ℕ). packet_lines (map k (up_from 0 n)) ++ l) line)

pub lines_to-all : (p : List ℕ) (h : Header) (s : Section) → lines_to (packet_in p h s) s.count ≡ packet_lines (packets_in p h s)
unfolding packets_in
lines_to-all p h s = lines_to-map (packet_in p h s) s.count

-- the lines of the packets before one, and its own, are no longer than all
pub lines_to-room : (k : ℕ → Packet) (n i : ℕ) → i < n → length (lines_to k i) + length (packet_line (k i)) ≤ length (lines_to k n)
unfolding lines_to
lines_to-room k zero i l = absurd (omega arith)
lines_to-room k (suc n) i l =
    let joined = length-append (lines_to k n) (packet_line (k n)) in
    elim (dec_lt i n) [
      | yes less ↦ omega (arith, lines_to-room k n i less)
      | no more ↦
          let e : i ≡ n = omega arith in
          let same : length (lines_to k i) + length (packet_line (k i)) ≡ length (lines_to k n) + length (packet_line (k n))
          = ap (λ (j : ℕ). length (lines_to k j) + length (packet_line (k j))) e in
          omega arith
    ]

-- one packet's line more
pub lines_to-more : (k : ℕ → Packet) (n : ℕ) → length (lines_to k (n + 1)) ≡ length (lines_to k n) + length (packet_line (k n))
unfolding lines_to
lines_to-more k n = rw (add-one n) (length-append (lines_to k n) (packet_line (k n)))

-- the whole text: the line of the shape, and a line for each packet
pub text_in-length : (p : List ℕ) (h : Header) (s : Section)
    → length (text_in p (h, s)) ≡ length (first_line h.shape) + length (lines_to (packet_in p h s) s.count)
unfolding text_in text_of
text_in-length p h s = rw (lines_to-all p h s) (length-append (first_line h.shape) (packet_lines (packets_in p h s)))

-- a text is not long: what it holds fits a machine word many times
lines_to-le : (p : List ℕ) (h : Header) (s : Section) → air_of p ≡ passes (h, s) → (n : ℕ) → n ≤ s.count
    → length (lines_to (packet_in p h s) n) ≤ n * 3142
unfolding lines_to
lines_to-le p h s read zero few = omega arith
lines_to-le p h s read (suc n) few =
    omega
    (arith, length-append (lines_to (packet_in p h s) n) (packet_line (packet_in p h s n)), lines_to-le p h s read n (omega arith), line-le p h s read n (omega arith))

pub text-le : (p : List ℕ) (h : Header) (s : Section) → air_of p ≡ passes (h, s) → length (text_in p (h, s)) ≤ 90 + s.count * 3142
text-le p h s read =
    omega (arith, text_in-length p h s, first_line-le h.shape, lines_to-le p h s read s.count (omega arith))

-- ---- appending

-- three characters
append-three : (b : List ℕ) (at x y z : ℕ) → at + 3 ≤ length b
    → Appended b at (x ∷ y ∷ z ∷ []) (set (set (set b at x) (at + 1) y) (at + 2) z) (at + 3)
append-three b at x y z h =
    let t = x ∷ y ∷ z ∷ [] in
    let zeroth : at + 0 ≡ at = omega arith in
    let first : set b at x ≡ paste b at t 1 = ap (λ (k : ℕ). set b k x) (sym zeroth) ∙ paste_more b at t b 0 (paste-zero b at t) (omega arith) (omega arith) in
    let second : set (set b at x) (at + 1) y ≡ paste b at t 2 = paste_more b at t (set b at x) 1 first (omega arith) (omega arith) in
    let third : set (set (set b at x) (at + 1) y) (at + 2) z ≡ paste b at t 3
    = paste_more b at t (set (set b at x) (at + 1) y) 2 second (omega arith) (omega arith) in
    let room : 3 ≡ min 3 (length b - at) = sym (min-eq_left (omega arith)) in
    rw third (append-paste b at t 3 (omega arith) room)

hex_bytes-append : (xs ys : List ℕ) → hex_bytes (xs ++ ys) ≡ hex_bytes xs ++ hex_bytes ys
unfolding hex_bytes hex_byte
hex_bytes-append [] ys = refl
hex_bytes-append (x ∷ xs) ys = rw (hex_bytes-append xs ys)

-- one byte more of a run
pub bytes-more : (b src m ds : List ℕ) (at i k : ℕ) → i < length src → k + 3 ≤ length b → ds ≡ hex_byte (get_or src i 0)
    → Appended b at (hex_bytes (take i src)) m k
    → Appended b at (hex_bytes (take (i + 1) src)) (set (set (set m k 32) (k + 1) (get_or ds 0 0)) (k + 2) (get_or ds 1 0)) (k + 3)
unfolding hex_bytes hex_byte
bytes-more b src m ds at i k inside room digits h =
    let byte = get_or src i 0 in
    let x = get_or ds 0 0 in
    let y = get_or ds 1 0 in
    let pair : hex_byte byte ≡ x ∷ y ∷ [] = rw digits in
    let more : take (i + 1) src ≡ take i src ++ (byte ∷ []) = rw (add-one i, take-suc src i 0 inside) in
    let last : hex_bytes (byte ∷ []) ≡ 32 ∷ x ∷ y ∷ [] = rw (append-nil (hex_byte byte)) (ap (λ (l : List ℕ). 32 ∷ l) pair) in
    rw (more, hex_bytes-append (take i src) (byte ∷ []), last)
    (append-append b at (hex_bytes (take i src)) m k (32 ∷ x ∷ y ∷ []) _ (k + 3) h (append-three m k 32 x y (omega (arith, h.size))))

pub bytes-none : (b : List ℕ) (at : ℕ) → at ≤ length b → Appended b at (hex_bytes []) b at
unfolding hex_bytes
bytes-none b at l = append-nothing b at l

-- the line of a packet: its numbers, its bytes, its end
module _ (p : List ℕ) (h : Header) (s : Section) (read : air_of p ≡ passes (h, s)) (i : ℕ) (l : i < s.count)
    (r : Option (ℕ × ℕ × ℕ × ℕ)) (outcome : PartsOutcome p h s i r) (a b c from : ℕ) (e : r ≡ Some (a, b, c, from)) (t u : List ℕ) (at x : ℕ) where
  -- there is room for its bytes behind numbers with as many digits
  pub line-room : (d f g : ℕ) → Appended t at (triple (ascii "packet ") d f g) u x
      → length (decimal d) + length (decimal f) + length (decimal g) ≡ length (decimal a) + length (decimal b) + length (decimal c)
      → at + length (packet_line (packet_in p h s i)) ≤ length t → (from + h.shape.w ≤ length p) × (x + 3 * h.shape.w ≤ length u)
  unfolding packet_size
  line-room d f g numbers same room =
      let k = packet_in p h s i in
      let (_, _, _, begins) = parts-read p h s read i l r outcome a b c from e in
      let inside = (stands p h s read i l).inside in
      let n = triple-length (ascii "packet ") d f g in
      let whole = line-length p h s read i l r outcome a b c from _ _ _ e refl refl refl in
      let ends = append-end t at (triple (ascii "packet ") d f g) u x (omega arith) numbers in
      (omega arith, omega (arith, numbers.size))

  pub line-appended : (v w : List ℕ) (y z : ℕ) → Appended t at (triple (ascii "packet ") a b c) u x
      → Appended u x (hex_bytes (take h.shape.w (drop from p))) v y → Appended v y (ascii "\n") w z → Appended t at (packet_line (packet_in p h s i)) w z
  unfolding packet_line packet_in
  line-appended v w y z numbers bytes newline =
      let (ea, eb, ec, begins) = parts-read p h s read i l r outcome a b c from e in
      let told : triple (ascii "packet ") a b c ≡ triple (ascii "packet ") (packet_in p h s i).a (packet_in p h s i).b (packet_in p h s i).c
      = ap (λ (n : ℕ). triple (ascii "packet ") n b c) ea ∙ ap (λ (n : ℕ). triple (ascii "packet ") (packet_in p h s i).a n c) eb
      ∙ ap (triple (ascii "packet ") (packet_in p h s i).a (packet_in p h s i).b) ec in
      let first : Appended t at (triple (ascii "packet ") (packet_in p h s i).a (packet_in p h s i).b (packet_in p h s i).c) u x = rw told at numbers in
      let second : Appended u x (hex_bytes (packet_in p h s i).bytes) v y = rw begins at bytes in
      append-append t at _ u x _ w z first (append-append u x _ v y _ w z second newline)

-- the lines one behind the other
module _ (p : List ℕ) (h : Header) (s : Section) (b m : List ℕ) (from at i : ℕ) (before : Appended b from (lines_to (packet_in p h s) i) m at) where
  pub lines-room : from + length (packet_lines (packets_in p h s)) ≤ length b → i < s.count → at + length (packet_line (packet_in p h s i)) ≤ length m
  lines-room room l =
      let k = packet_in p h s in
      let all = ap length (lines_to-all p h s) in
      let most = lines_to-room k s.count i l in
      let ends = append-end b from (lines_to k i) m at (omega arith) before in
      omega (arith, before.size)

  pub lines_more : (a : List ℕ) (e : ℕ) → Appended m at (packet_line (packet_in p h s i)) a e → Appended b from (lines_to (packet_in p h s) (i + 1)) a e
  unfolding lines_to
  lines_more a e line = rw (add-one i) (append-append b from _ m at _ a e before line)

pub lines_none : (k : ℕ → Packet) (b : List ℕ) (from : ℕ) → from ≤ length b → Appended b from (lines_to k 0) b from
unfolding lines_to
lines_none k b from l = append-nothing b from l

pub lines-all : (p : List ℕ) (h : Header) (s : Section) (b a : List ℕ) (from n e : ℕ) → n ≡ s.count → Appended b from (lines_to (packet_in p h s) n) a e
    → Appended b from (packet_lines (packets_in p h s)) a e
lines-all p h s b a from n e all lines =
    subst (λ (t : List ℕ). Appended b from t a e) (ap (lines_to (packet_in p h s)) all ∙ lines_to-all p h s) lines

-- the line of the shape, and the packets' lines behind it
module _ (p : List ℕ) (h : Header) (s : Section) (t u : List ℕ) (x : ℕ) (size : length t ≡ length (text_in p (h, s)))
    (first : Appended t 0 (first_line h.shape) u x) where
  pub text-room : x + length (packet_lines (packets_in p h s)) ≤ length u
  unfolding text_in text_of
  text-room =
      let whole = length-append (first_line h.shape) (packet_lines (packets_in p h s)) in
      omega (arith, first.size, append-end t 0 (first_line h.shape) u x (omega arith) first)

  pub text-whole : (v : List ℕ) (y : ℕ) → Appended u x (packet_lines (packets_in p h s)) v y → v ≡ text_in p (h, s)
  unfolding text_in text_of
  text-whole v y lines = append-all t _ v y size (append-append t 0 _ u x _ v y first lines)

-- ---- the checks

pub text-unread : (p before : List ℕ) (f : Refusal) → refusal {A = Header × Section} f ≡ checked (plain_air_of p)
    → WriteTextOutcome p before before (refusal f)
unfolding write_text_checked and_then
text-unread p before f e =
    let (n, failed, value) = checked-fails {B = Unit} (plain_air_of p) f e in
    let first : write_text_checked p (length before) ≡ fails n
    = ap (λ (c : Checked (Header × Section)). and_then c (λ air. check (eqb (length before) (length (text_in p air))) 4 (passes air))) failed in
    rw value (write_refused n first refl)
