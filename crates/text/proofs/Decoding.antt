-- The second turn over a text: its first turn told it whole, bytes are decoded one by one, a line becomes its packet, and the packets of all
-- lines the pack.
use Rattle.std.specs.Prelude.{Result, Ok, Err, Option, Some, None}
use mathlib.Core.Path.{◌≡◌, refl, sym, ap, ◌∙◌}
use mathlib.Core.Logic.{inl}
use mathlib.Core.List.{List, [], ◌∷◌, ◌++◌, append-nil}
use Prim.Native.Nat.{ℕ, suc, ◌+◌, ◌*◌, ◌≤◌, ◌<◌}
use native.Mathlib.Numerals.{add-one}
use native.Mathlib.Omega.{arith}
use lib.Dec.{eqb}
use lib.ListN.{length, get_or, set, take, drop, length-append, length-drop}
use lib.Seq.{length-take-le, get_or-take, take-suc, take-length, drop-cons}
use Rattle.span.specs.Span.{Copied, Put}
use Rattle.span.proofs.Copying.{copied_more}
use Rattle.span.proofs.Putting.{put-none, put_all}
use Rattle.span.proofs.Stretches.{stretch-end}
use Rattle.shape.specs.declared.Shape.{Shape}
use Rattle.cursor.specs.declared.Cursor.{Cursor}
use Rattle.printing.specs.Text.{ascii}
use Rattle.pack.specs.Packs.{Packet, packet_bytes, packets, air_pack, air_head, air_size}
use Rattle.pack.specs.Packets.{packet_no}
use Rattle.pack.specs.Reading.{header_with, header_for}
use Rattle.pack.proofs.Written.{Sized, packets-length, packets-append, air-laid, air-length}
use Rattle.pack_writer.proofs.Laying.{laid-laid}
use Rattle.answer.proofs.Tuples.{some-four}
use Rattle.answer.specs.declared.Refusal.{Refusal}
use Rattle.answer.specs.declared.Refusal.TheVariants.{Line}
use Rattle.answer.specs.Values.{Value, gives, refused, refused_at, Checked, passes, fails, check, checked, and_then, refusal, value_of}
use Rattle.answer.proofs.Values.{passes-fails, refusal-gives, checked-fails}
use Rattle.pack_writer.specs.Writing.{air_size_checked, start_checked, StartOutcome, start_refused, started, Laid}
use Rattle.text.specs.Form.{packet_line, packet_lines, first_line, text_of, Formed, Broken}
use Rattle.text.specs.Text.{ReadTextOutcome, read_refused, read_outside, read_done, PackSizeOutcome, size_found}
use Rattle.text.specs.Inner.Lines.{hex_value, pair_byte, pair_bytes, HexLine, ThreeOutcome}
use Rattle.text.specs.Inner.Scan.{Scanning, ScanOutcome, scan_whole, scan_broken}
use Rattle.text.specs.Inner.Reader.{Read, LineOf}
use Rattle.text.specs.declared.reader.Turn.{Turn}
use Rattle.text.specs.declared.scan.Contents.{Contents}
use Rattle.text.proofs.Hexadecimal.{pairs-byte, pairs-length}
use Rattle.text.proofs.FirstTurn.{line-some}
use Rattle.text.proofs.SecondTurn.{line-rest, line_first, LineRead, line_read}

-- ---- what the first turn told

-- the first turn's refusal, as the answer of any call
pub scanned-broken : {A : Type 0} {t : List ℕ} (r : Result Contents Refusal) (f : Refusal) → ScanOutcome t r → r ≡ Err f
    → (n : ℕ) × (refusal {A = A} f ≡ refused_at 17 n) × Broken t n
unfolding refusal
scanned-broken r f (scan_whole s ks h) e = let z : ◌≡◌ {A = ℕ} 0 1 = cc in absurd (omega arith)
scanned-broken {A} r f (scan_broken n b) e = let same : Line n ≡ f = cc in (n, sym (ap (refusal {A = A}) same), b)

pub scanned-whole : {t : List ℕ} (r : Result Contents Refusal) (s : Contents) → ScanOutcome t r → r ≡ Ok s → Read t s
scanned-whole {t} r s (scan_whole s' ks h) e = let same : s' ≡ s = cc in rw (sym same) (record { list = ks; scanning = h })
scanned-whole {t} r s (scan_broken m b) e = let z : ◌≡◌ {A = ℕ} 0 1 = cc in absurd (omega arith)

pub size-told : {t : List ℕ} {s : Contents} (v : Value ℕ) → Read t s → v ≡ checked (air_size_checked s.shape s.packets) → PackSizeOutcome t v
size-told {t} {s} v r e =
    let h = r.scanning in
    let same : checked (air_size_checked s.shape s.packets) ≡ checked (air_size_checked s.shape (length r.list))
    = ap (λ (n : ℕ). checked (air_size_checked s.shape n)) h.packets in
    rw (e ∙ same) (size_found s.shape r.list h.form h.text)

-- ---- bytes

-- one byte more, by its two digits
pub decoded-more : (t : List ℕ) {before after : List ℕ} (from to n i k p high low : ℕ) → i < n → k ≡ from + 3 * i → p ≡ to + i → p < length after
    → high ≡ hex_value (get_or t (k + 1) 0) → low ≡ hex_value (get_or t (k + 2) 0)
    → Copied (pair_bytes t from n) 0 before to i after → Copied (pair_bytes t from n) 0 before to (i + 1) (set after p (high * 16 + low))
unfolding pair_byte
decoded-more t {before} {after} from to n i k p high low l at place room h g c =
    let same : 0 + i ≡ i = omega arith in
    let byte : high * 16 + low ≡ pair_byte t k = omega arith in
    copied_more (pair_bytes t from n) before after 0 to i p (high * 16 + low) place
    (byte ∙ (ap (pair_byte t) at ∙ (sym (pairs-byte t from n i l) ∙ ap (λ (j : ℕ). get_or (pair_bytes t from n) j 0) (sym same)))) room c

-- ---- the first packets of a list

sized-taken : (w : ℕ) (ks : List Packet) → Sized w ks → (i : ℕ) → i ≤ length ks → Sized w (take i ks)
unfolding packet_no
sized-taken w ks all i few j l =
    let n = length-take-le i ks few in
    ap (λ (k : Packet). length k.bytes) (get_or-take i ks j _ (omega arith)) ∙ all j (omega arith)

taken-length : (w : ℕ) (ks : List Packet) → Sized w ks → (i : ℕ) → i ≤ length ks → length (packets (take i ks)) ≡ i * (3 + w)
taken-length w ks all i few =
    packets-length w (take i ks) (sized-taken w ks all i few) ∙ ap (λ (n : ℕ). n * (3 + w)) (length-take-le i ks few)

packets-taken : (ks : List Packet) (i : ℕ) → i < length ks → packets (take (i + 1) ks) ≡ packets (take i ks) ++ packet_bytes (packet_no ks i)
unfolding packets packet_no
packets-taken ks i l =
    ap (λ (n : ℕ). packets (take n ks)) (add-one i)
    ∙ (ap packets (take-suc ks i _ l)
    ∙ (packets-append (take i ks) _ ∙ ap (λ (r : List ℕ). packets (take i ks) ++ r) (append-nil _)))

-- ---- a line

-- a line that begins at a place lies in the text
pub line-below : {w : ℕ} {t : List ℕ} {at : ℕ} {k : Packet} {rest : List ℕ} → LineOf w t at k rest → at ≤ length t
line-below {w} {t} {at} {k} {rest} l =
    omega (arith, length-drop at t, ap length l.stands, length-append (packet_line k) rest, line-some k)

module _ {w : ℕ} {t : List ℕ} {at : ℕ} {k : Packet} {rest : List ℕ} (l : LineOf w t at k rest) (r : Option (ℕ × ℕ × ℕ × ℕ))
    (three : ThreeOutcome (ascii "packet ") t at r) where
  read_again : LineRead w t at k rest r
  read_again = line_read w t at k rest r l.formed l.stands three

  pub line-refuted : r ≡ None → ⊥
  line-refuted e = let answer = read_again.answer in let z : ◌≡◌ {A = ℕ} 0 1 = cc in omega arith

  -- its numbers, and the bytes behind them
  pub line-again : (a b c end : ℕ) → r ≡ Some (a, b, c, end)
      → (a ≡ k.a) × (b ≡ k.b) × (c ≡ k.c) × HexLine w t end × (k.bytes ≡ pair_bytes t end w) × (rest ≡ drop (end + 3 * w + 1) t)
  line-again a b c end e =
      let q = read_again in
      let answer = q.answer in
      let (ea, eb, ec, same) = some-four a k.a b k.b c k.c end q.end (sym e ∙ answer) in
      (ea, eb, ec, rw (← same) at q.hex, rw (← same) at q.bytes, rw (← same) at q.behind)

  -- the packet: its coordinates, then its bytes
  pub packet-put : {before mid after : List ℕ} {c₀ cell : Cursor} (a b c end : ℕ) → r ≡ Some (a, b, c, end) → Laid before c₀ (a ∷ b ∷ c ∷ []) mid cell
      → Put mid cell.at (pair_bytes t end w) after
      → Laid before c₀ (packet_bytes k) after (record { at = cell.at + w }) × (rest ≡ drop (end + 3 * w + 1) t)
  unfolding packet_bytes
  packet-put {before} {mid} {after} {c₀} {cell} a b c end e coordinates bytes =
      let (ea, eb, ec, _, eq, behind) = line-again a b c end e in
      let last : Laid mid cell (pair_bytes t end w) after (record { at = cell.at + w })
      = record { put = bytes; behind = omega (arith, pairs-length t end w) } in
      (rw (← ea, ← eb, ← ec, eq) (laid-laid coordinates last), behind)

-- ---- all lines

-- what the second turn goes by: the text of a shape and of packets that fit their bytes, whose lines begin at a place
pub record Lines (t : List ℕ) (w at : ℕ) (sh : Shape) (ks : List Packet) : Type 0 where
  pub text : t ≡ text_of sh ks
  pub width : sh.w ≡ w
  pub start : at ≡ length (first_line sh)
  pub formed : (i : ℕ) → i < length ks → Formed w (packet_no ks i)
  pub bytes : (i : ℕ) → i < length ks → ((packet_no ks i).a < 256) × ((packet_no ks i).b < 256) × ((packet_no ks i).c < 256)

-- after i turns the lines from i on are left, and the packets before i are laid
unfoldable pub Turned : List ℕ → ℕ → List ℕ → Turn → ℕ → List ℕ → Turn → Type 0
Turned t w before turn₀ i after turn =
    (sh : Shape) (ks : List Packet) → Lines t w turn₀.at sh ks → i ≤ length ks →
    (drop turn.at t ≡ packet_lines (drop i ks)) × Laid before turn₀.next (packets (take i ks)) after turn.next

pub turned_none : (t : List ℕ) (w : ℕ) (s : List ℕ) (turn₀ : Turn) → Turned t w s turn₀ 0 s turn₀
unfolding Turned packets
turned_none t w s turn₀ sh ks l few = (
  rw (l.start, l.text) (ap (λ (n : ℕ). drop n (text_of sh ks)) (sym (line_first sh ks)) ∙ line-rest sh ks 0),
  record { put = put-none s turn₀.next.at; behind = omega arith },
)

module _ (t : List ℕ) (w : ℕ) (before : List ℕ) (turn₀ : Turn) (i : ℕ) (mid : List ℕ) (turn : Turn) (turned : Turned t w before turn₀ i mid turn) where
  -- the line that comes next
  pub turned-line : (sh : Shape) (ks : List Packet) → Lines t w turn₀.at sh ks → i < length ks
      → LineOf w t turn.at (packet_no ks i) (packet_lines (drop (suc i) ks))
  unfolding Turned packet_lines packet_no
  turned-line sh ks l few =
      let (a, b, c) = l.bytes i few in
      record {
        formed = l.formed i few;
        a_byte = a;
        b_byte = b;
        c_byte = c;
        stands = (turned sh ks l (omega arith)).0 ∙ ap packet_lines (drop-cons ks i _ few);
      }

  -- there is room for its packet
  pub turned-room : (sh : Shape) (ks : List Packet) → Lines t w turn₀.at sh ks → i < length ks
      → turn₀.next.at + length ks * (3 + w) ≤ length before → turn.next.at + (3 + w) ≤ length mid
  unfolding Turned
  turned-room sh ks l few room =
      let (_, laid) = turned sh ks l (omega arith) in
      omega (arith, laid.behind, laid.put.kept.size, taken-length w ks (λ j m. (l.formed j m).size) i (omega arith), stretch-end i (length ks) (3 + w) few)

  pub turned_more : (after : List ℕ) (next : Turn)
      → ((k : Packet) (rest : List ℕ) → LineOf w t turn.at k rest → Laid mid turn.next (packet_bytes k) after next.next × (rest ≡ drop next.at t))
      → Turned t w before turn₀ (i + 1) after next
  unfolding Turned
  turned_more after next put sh ks l few =
      let (_, laid) = turned sh ks l (omega arith) in
      let (packet, rest) = put _ _ (turned-line sh ks l (omega arith)) in (
        sym rest ∙ ap (λ (n : ℕ). packet_lines (drop n ks)) (sym (add-one i)),
        rw (packets-taken ks i (omega arith)) (laid-laid laid packet),
      )

  -- no line is left
  pub turned-all : (sh : Shape) (ks : List Packet) → Lines t w turn₀.at sh ks → i ≡ length ks → Put before turn₀.next.at (packets ks) mid
  unfolding Turned
  turned-all sh ks l all =
      let whole : take i ks ≡ ks = ap (λ (n : ℕ). take n ks) all ∙ take-length ks in
      rw whole at (turned sh ks l (omega arith)).1.put

-- the lines of a text that the first turn found whole, with every packet inside
pub read-lines : {t : List ℕ} {s : Contents} (ks : List Packet) → Scanning t s ks → s.inside ≡ s.packets → s.shape.l1 ≤ 255 → s.shape.l2 ≤ 255
    → s.shape.l3 ≤ 255 → Lines t s.shape.w s.lines s.shape ks
read-lines {t} {s} ks h all l1 l2 l3 =
    record {
      text = h.text;
      width = refl;
      start = h.lines;
      formed = h.form.packets;
      bytes = λ i l.
          let n = h.inside.before i (omega (arith, h.packets)) in
          (omega (arith, n.first), omega (arith, n.second), omega (arith, n.third));
    }

-- ---- the pack

-- `start_air` where the checks have passed
module _ {sh : Shape} {n : ℕ} {before after : List ℕ} (r : Result Cursor Refusal) (start : StartOutcome sh n before after (value_of r))
    (passed : start_checked sh n (length before) ≡ passes tt) where
  pub start-told : (c : Cursor) → r ≡ Ok c → Laid before (record { at = 0 }) (air_head (header_for sh) n) after c
  unfolding value_of
  start-told c e = told _ start (ap value_of e)
    where
      told : (v : Value Cursor) → StartOutcome sh n before after v → v ≡ gives c → Laid before (record { at = 0 }) (air_head (header_for sh) n) after c
      told _ (start_refused number fail kept) q = absurd (passes-fails tt number (sym passed ∙ fail))
      told _ (started d _ l) q = let same : d ≡ c = cc in rw same at l

  pub start-refuted : (f : Refusal) → r ≡ Err f → ⊥
  unfolding value_of
  start-refuted f e = refuted _ start (ap value_of e)
    where
      refuted : (v : Value Cursor) → StartOutcome sh n before after v → v ≡ refusal f → ⊥
      refuted _ (start_refused number fail kept) q = passes-fails tt number (sym passed ∙ fail)
      refuted _ (started d _ l) q = refusal-gives f d (sym q)

-- what stands before the packets, and the packets, over the whole slice
pub pack-laid : {before mid after : List ℕ} {c : Cursor} (sh : Shape) (n : ℕ) (ks : List Packet) → n ≡ length ks → Sized sh.w ks
    → length before ≡ air_size (header_for sh) n → Laid before (record { at = 0 }) (air_head (header_for sh) n) mid c → Put mid c.at (packets ks) after
    → after ≡ air_pack (header_for sh) ks
unfolding header_for header_with
pack-laid {before} {mid} {after} {c} sh n ks count all size head rest =
    let h = header_for sh in
    let last : Laid mid c (packets ks) after (record { at = c.at + length (packets ks) }) = record { put = rest; behind = refl } in
    let counted : Laid before (record { at = 0 }) (air_head h (length ks)) mid c = rw count at head in
    let parts = air-laid h ks in
    put_all (rw (← parts) at (laid-laid counted last).put) (air-length h ks (inl refl) all ∙ (sym (ap (air_size h) count) ∙ sym size))

-- ---- what the reader answers

module _ {t : List ℕ} {s : Contents} (r : Read t s) (before : List ℕ) where
  counted : (c : Checked Unit) → start_checked s.shape s.packets (length before) ≡ c → start_checked s.shape (length r.list) (length before) ≡ c
  counted c e = rw r.scanning.packets at e

  pub read-unfit : (n : ℕ) → start_checked s.shape s.packets (length before) ≡ fails n → ReadTextOutcome t before before (refused n)
  read-unfit n e = let h = r.scanning in read_refused s.shape r.list n h.form h.text (counted (fails n) e) refl

  -- the shape's checks and the pack's room fail
  pub read-refusing : (f : Refusal) → refusal {A = ℕ} f ≡ checked (air_size_checked s.shape s.packets) → ReadTextOutcome t before before (refusal f)
  unfolding start_checked and_then
  read-refusing f e =
      let (n, failed, value) = checked-fails {B = Unit} (air_size_checked s.shape s.packets) f e in
      let first : start_checked s.shape s.packets (length before) ≡ fails n
      = ap (λ (c : Checked ℕ). and_then c (λ size. check (eqb (length before) size) 4 (passes tt))) failed in
      rw value (read-unfit n first)

  pub read-beyond : start_checked s.shape s.packets (length before) ≡ passes tt → s.inside < s.packets
      → ReadTextOutcome t before before (refused_at 11 s.inside)
  read-beyond e l =
      let h = r.scanning in
      let bound : s.inside < length r.list = omega (arith, h.packets) in
      read_outside s.shape r.list s.inside h.form h.text (counted (passes tt) e)
      (record { bound = bound; before = h.inside.before; here = h.inside.here bound }) refl

  pub read_whole : (after : List ℕ) → start_checked s.shape s.packets (length before) ≡ passes tt → s.inside ≡ s.packets
      → ((ks : List Packet) → Scanning t s ks → after ≡ air_pack (header_for s.shape) ks) → ReadTextOutcome t before after (gives tt)
  read_whole after e all pack =
      let h = r.scanning in
      read_done s.shape r.list h.form h.text (counted (passes tt) e)
      (λ i l. h.inside.before i (omega (arith, h.packets))) (pack r.list h)
