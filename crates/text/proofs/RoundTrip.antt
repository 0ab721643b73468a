-- The contracts on texts leave nothing open, and a pack and its text make each other. A pack that is read is the air pack of its shape and
-- packets, and its text is theirs; a text has one reading. So what the one call makes of the other's result is known, and nothing else can be met.
use mathlib.Core.Path.{◌≡◌, refl, sym, ap, ap₂, subst, ◌∙◌}
use mathlib.Core.Logic.{inl}
use mathlib.Core.List.{List}
use Prim.Native.Nat.{ℕ, ◌^◌, ◌≤◌, ◌<◌}
use native.Mathlib.Omega.{arith}
use lib.ListN.{length, get_or}
use borrow.Author.Tests.{le-leb}
use Rattle.answer.specs.Values.{Value, gives, refused, refused_at, Checked, passes, fails, check, checked}
use Rattle.answer.proofs.Values.{passes-injective, fails-injective, passes-fails, check-passed, then-passed}
use Rattle.shape.specs.declared.Shape.{Shape}
use Rattle.shape.specs.Shapes.{Valid, capacity}
use Rattle.cursor.specs.Steps.{word, word_bytes, count}
use Rattle.pack.specs.declared.Header.{Header}
use Rattle.pack.specs.declared.Section.{Section}
use Rattle.pack.specs.Packs.{Packet, section_one, head, air_pack, air_size}
use Rattle.pack.specs.Reading.{header_with, header_for, used_by, air_of, plain_air_of}
use Rattle.pack.specs.Packets.{packet_in, packets_in, packet_no, FirstOutside}
use Rattle.pack.proofs.Sound.{plain-sound, air-sound, plain-air}
use Rattle.pack.proofs.Written.{Sized, air-read, air-length}
use Rattle.pack.proofs.AirPacks.{packets_in-length, packets_in-at, Octets, packet_in-size, packets_in-sized, packet_in-bytes, named-in-range, in-range-named, air-back, packets-back, plain-header, air_pack-bytes}
use Rattle.pack_writer.specs.Writing.{air_size_checked, start_checked}
use Rattle.pack_writer.proofs.Starting.{start-passed, start-passes}
use Rattle.text.specs.Form.{text_of, Formed, InForm, Broken}
use Rattle.text.specs.Text.{text_in, write_text_checked, WriteTextOutcome, write_refused, write_outside, write_done, Inside, Outside, ReadTextOutcome, read_broken, read_refused, read_outside, read_done, PackSizeOutcome, size_broken, size_found}
use Rattle.text.specs.Theorems.{ReadsBack, WritesBack, OneReading, BrokenOrForm, OneBroken}
use Rattle.text.proofs.Fitting.{text-fits}
use Rattle.text.proofs.Unique.{one-reading, broken-or-form, one-broken}

-- ---- what both calls have in common

-- refused by a check, refused at a packet outside, or done
data Judged {A : Type 0} (c : Checked A) (Out : A → ℕ → Type 0) (All : A → Type 0) (made : A → List ℕ) (before after : List ℕ) : Value Unit → Type 0 where
  judged_refused : (n : ℕ) → c ≡ fails n → after ≡ before → Judged c Out All made before after (refused n)
  judged_outside : (x : A) (i : ℕ) → c ≡ passes x → Out x i → after ≡ before → Judged c Out All made before after (refused_at 11 i)
  judged_done : (x : A) → c ≡ passes x → All x → after ≡ made x → Judged c Out All made before after (gives tt)

module _ {A : Type 0} (c : Checked A) (Out : A → ℕ → Type 0) (All : A → Type 0) (made : A → List ℕ)
    (one : (x : A) (i j : ℕ) → Out x i → Out x j → i ≡ j) (none : (x : A) (i : ℕ) → Out x i → All x → ⊥) where
  same-passed : (x y : A) → c ≡ passes x → c ≡ passes y → x ≡ y
  same-passed x y e e' = passes-injective x y (sym e ∙ e')

  -- where one packet is the first outside, the inputs determine the answer and every lent byte
  judged-determined : (before a b : List ℕ) (v v' : Value Unit) → Judged c Out All made before a v → Judged c Out All made before b v'
      → (v ≡ v') × (a ≡ b)
  judged-determined before a b v v' (judged_refused n e k) (judged_refused m e' k') = (ap refused (fails-injective n m (sym e ∙ e')), k ∙ sym k')
  judged-determined before a b v v' (judged_refused n e k) (judged_outside y j e' g k') = absurd (passes-fails y n (sym e' ∙ e))
  judged-determined before a b v v' (judged_refused n e k) (judged_done y e' g k') = absurd (passes-fails y n (sym e' ∙ e))
  judged-determined before a b v v' (judged_outside x i e f k) (judged_refused n e' k') = absurd (passes-fails x n (sym e ∙ e'))
  judged-determined before a b v v' (judged_outside x i e f k) (judged_outside y j e' g k') =
      (ap (refused_at 11) (one x i j f (subst (λ (z : A). Out z j) (same-passed y x e' e) g)), k ∙ sym k')
  judged-determined before a b v v' (judged_outside x i e f k) (judged_done y e' g k') = absurd (none x i f (subst All (same-passed y x e' e) g))
  judged-determined before a b v v' (judged_done x e f k) (judged_refused n e' k') = absurd (passes-fails x n (sym e ∙ e'))
  judged-determined before a b v v' (judged_done x e f k) (judged_outside y j e' g k') = absurd (none y j g (subst All (same-passed x y e e') f))
  judged-determined before a b v v' (judged_done x e f k) (judged_done y e' g k') = (refl, k ∙ ap made (same-passed x y e e') ∙ sym k')

-- ---- `write_text`

-- the first packet that names no cell; every packet names one
abbrev First : List ℕ → Header × Section → ℕ → Type 0
First p air i = FirstOutside p air.0 air.1 i × (i < air.1.count)

abbrev AllNamed : List ℕ → Header × Section → Type 0
AllNamed p air = FirstOutside p air.0 air.1 air.1.count

module _ (p : List ℕ) where
  one-first : (air : Header × Section) (i j : ℕ) → First p air i → First p air j → i ≡ j
  one-first air i j (f, l) (g, m) =
      let less : i < j → ⊥ = λ (k : i < j). f.here l (g.before i k) in
      let more : j < i → ⊥ = λ (k : j < i). g.here m (f.before j k) in
      omega arith

  first-or-all : (air : Header × Section) (i : ℕ) → First p air i → AllNamed p air → ⊥
  first-or-all air i (f, l) all = f.here l (all.before i l)

  write-judged : (before a : List ℕ) (v : Value Unit) → WriteTextOutcome p before a v
      → Judged (write_text_checked p (length before)) (First p) (AllNamed p) (text_in p) before a v
  write-judged before a v (write_refused n e kept) = judged_refused n e kept
  write-judged before a v (write_outside h s i e f l kept) = judged_outside (h, s) i e (f, l) kept
  write-judged before a v (write_done h s e f text) = judged_done (h, s) e f text

  -- the contract determines the answer and every lent byte
  pub write-text-determined : (before a b : List ℕ) (v v' : Value Unit) → WriteTextOutcome p before a v → WriteTextOutcome p before b v'
      → (v ≡ v') × (a ≡ b)
  write-text-determined before a b v v' o o' =
      judged-determined (write_text_checked p (length before)) (First p) (AllNamed p) (text_in p) one-first first-or-all before a b v v'
      (write-judged before a v o) (write-judged before b v' o')

-- ---- `read_text`

form-broken : (t : List ℕ) (sh : Shape) (ks : List Packet) (n : ℕ) → InForm sh ks → t ≡ text_of sh ks → Broken t n → ⊥
unfolding BrokenOrForm
form-broken t sh ks n f e b = broken-or-form sh ks n f (subst (λ (z : List ℕ). Broken z n) e b)

-- no packet names a cell outside the cube
abbrev AllInside : Shape → List Packet → Type 0
AllInside sh ks = (i : ℕ) → i < length ks → Inside sh (packet_no ks i)

-- the outcome of a text that is made of this shape and these packets
abbrev ReadJudged : (before after : List ℕ) → Value Unit → Shape → List Packet → Type 0
ReadJudged before after v sh ks =
    Judged {A = Unit} (start_checked sh (length ks) (length before)) (λ x. Outside sh ks) (λ x. AllInside sh ks) (λ x. air_pack (header_for sh) ks) before after v

one_outside : (sh : Shape) (ks : List Packet) (i j : ℕ) → Outside sh ks i → Outside sh ks j → i ≡ j
one_outside sh ks i j f g =
    let less : i < j → ⊥ = λ (l : i < j). f.here (g.before i l) in
    let more : j < i → ⊥ = λ (l : j < i). g.here (f.before j l) in
    omega arith

module _ (t before : List ℕ) where
  broken-told : (a : List ℕ) (v : Value Unit) (n : ℕ) → Broken t n → ReadTextOutcome t before a v → (v ≡ refused_at 17 n) × (a ≡ before)
  unfolding OneBroken
  broken-told a v n b (read_broken m d kept) = (ap (refused_at 17) (one-broken t m n d b), kept)
  broken-told a v n b (read_refused sh ks m f e c kept) = absurd (form-broken t sh ks n f e b)
  broken-told a v n b (read_outside sh ks i f e c out kept) = absurd (form-broken t sh ks n f e b)
  broken-told a v n b (read_done sh ks f e c all pack) = absurd (form-broken t sh ks n f e b)

  module _ (sh : Shape) (ks : List Packet) (f : InForm sh ks) (e : t ≡ text_of sh ks) where
    -- whatever reading an outcome speaks of, it is this one
    read_as : (a : List ℕ) (v : Value Unit) (x : Shape) (ms : List Packet) → InForm x ms → t ≡ text_of x ms → ReadJudged before a v x ms
        → ReadJudged before a v sh ks
    unfolding OneReading
    read_as a v x ms g e' o =
        let (u, w) = one-reading x sh ms ks g f (sym e' ∙ e) in
        subst (λ (z : Shape × List Packet). ReadJudged before a v z.0 z.1) (λ i. (u i, w i)) o

    read-judged : (a : List ℕ) (v : Value Unit) → ReadTextOutcome t before a v → ReadJudged before a v sh ks
    read-judged a v (read_broken n b kept) = absurd (form-broken t sh ks n f e b)
    read-judged a v (read_refused x ms n g e' c kept) = read_as a v x ms g e' (judged_refused n c kept)
    read-judged a v (read_outside x ms i g e' c out kept) = read_as a v x ms g e' (judged_outside tt i c out kept)
    read-judged a v (read_done x ms g e' c all pack) = read_as a v x ms g e' (judged_done tt c all pack)

    form-determined : (a b : List ℕ) (v v' : Value Unit) → ReadTextOutcome t before a v → ReadTextOutcome t before b v' → (v ≡ v') × (a ≡ b)
    form-determined a b v v' o o' =
        judged-determined {A = Unit} (start_checked sh (length ks) (length before)) (λ x. Outside sh ks) (λ x. AllInside sh ks) (λ x. air_pack (header_for sh) ks)
        (λ x. one_outside sh ks) (λ x i out all. out.here (all i out.bound)) before a b v v' (read-judged a v o) (read-judged b v' o')

  -- the contract determines the answer and every lent byte
  pub read-text-determined : (a b : List ℕ) (v v' : Value Unit) → ReadTextOutcome t before a v → ReadTextOutcome t before b v'
      → (v ≡ v') × (a ≡ b)
  read-text-determined a b v v' (read_broken n w kept) o =
      let (value, kept') = broken-told b v' n w o in
      (sym value, kept ∙ sym kept')
  read-text-determined a b v v' (read_refused sh ks n f e c kept) o = form-determined sh ks f e a b v v' (read_refused sh ks n f e c kept) o
  read-text-determined a b v v' (read_outside sh ks i f e c out kept) o = form-determined sh ks f e a b v v' (read_outside sh ks i f e c out kept) o
  read-text-determined a b v v' (read_done sh ks f e c all pack) o = form-determined sh ks f e a b v v' (read_done sh ks f e c all pack) o

-- `text_pack_bytes`: the contract determines the answer
pub pack-size-determined : (t : List ℕ) (v v' : Value ℕ) → PackSizeOutcome t v → PackSizeOutcome t v' → v ≡ v'
unfolding OneReading OneBroken
pack-size-determined t v v' (size_broken n b) (size_broken m d) = ap (refused_at 17) (one-broken t n m b d)
pack-size-determined t v v' (size_broken n b) (size_found sh ks f e) = absurd (form-broken t sh ks n f e b)
pack-size-determined t v v' (size_found sh ks f e) (size_broken n b) = absurd (form-broken t sh ks n f e b)
pack-size-determined t v v' (size_found sh ks f e) (size_found x ms g e') =
    let (u, w) = one-reading sh x ks ms f g (sym e ∙ e') in
    ap₂ (λ (z : Shape) (zs : List Packet). checked (air_size_checked z (length zs))) u w

-- ---- outcomes that are met

-- the text of a pack that is read, where every packet names a cell and the slice has the text's length
pub text-written : (p before : List ℕ) (h : Header) (s : Section) → plain_air_of p ≡ passes (h, s) → FirstOutside p h s s.count
    → length before ≡ length (text_in p (h, s)) → WriteTextOutcome p before (text_in p (h, s)) (gives tt)
text-written p before h s read all size = write_done h s (text-fits p h s read (length before) size) all refl

-- an air pack of count 5 is one that the text twin reads
plain-written : (sh : Shape) (ks : List Packet) (s : Section) → air_of (air_pack (header_for sh) ks) ≡ passes (header_for sh, s)
    → plain_air_of (air_pack (header_for sh) ks) ≡ passes (header_for sh, s)
unfolding plain_air_of count check word word_bytes air_pack head section_one header_for header_with
plain-written sh ks s read = rw (read, le-leb 4 (length (air_pack (header_for sh) ks)) (omega arith))

-- The pack of a text in the form, and the text of that pack: where the shape is valid with room for a file's length, all packets lie in the
-- cube, and the slice has the right length.
module _ (sh : Shape) (ks : List Packet) (f : InForm sh ks) (v : Valid sh) (room : 4 ≤ capacity sh) (all : AllInside sh ks) (before : List ℕ) where
  pub pack_made : length before ≡ air_size (header_for sh) (length ks) → ReadTextOutcome (text_of sh ks) before (air_pack (header_for sh) ks) (gives tt)
  pack_made size = read_done sh ks f refl (start-passes sh (length ks) (length before) v room size) all refl

  octets : (i : ℕ) → i < length ks → Octets (packet_no ks i)
  octets i l =
      let k = all i l in
      record {
        a_byte = omega (arith, k.first, v.l1_high);
        b_byte = omega (arith, k.second, v.l2_high);
        c_byte = omega (arith, k.third, v.l3_high);
        cell_bytes = (f.packets i l).bytes;
      }

  all_named : (s : Section) → air_of (air_pack (header_for sh) ks) ≡ passes (header_for sh, s) → packets_in (air_pack (header_for sh) ks) (header_for sh) s ≡ ks
      → FirstOutside (air_pack (header_for sh) ks) (header_for sh) s s.count
  unfolding header_for header_with used_by
  all_named s read back =
      let p = air_pack (header_for sh) ks in
      let count : s.count ≡ length ks = sym (packets_in-length p (header_for sh) s) ∙ ap length back in
      let inside : (i : ℕ) → i < s.count → Inside sh (packet_in p (header_for sh) s i)
      = λ (i : ℕ) (l : i < s.count).
      subst (Inside sh) (sym (ap (λ (zs : List Packet). packet_no zs i) back) ∙ packets_in-at p (header_for sh) s i l) (all i (omega arith)) in
      record {
        bound = omega arith;
        before = λ (i : ℕ) (l : i < s.count).
            let k = inside i l in
            in-range-named p (header_for sh) s read (air_pack-bytes (header_for sh) ks (plain-sound sh v room) octets) refl i l k.first k.second k.third;
        here = λ l n. omega arith;
      }

  pub text-made : length before ≡ length (text_of sh ks) → WriteTextOutcome (air_pack (header_for sh) ks) before (text_of sh ks) (gives tt)
  unfolding text_in header_for header_with
  text-made size =
      let p = air_pack (header_for sh) ks in
      let sound = plain-sound sh v room in
      let sized : Sized sh.w ks = λ (i : ℕ) (l : i < length ks). (f.packets i l).size in
      let few : length ks < 2 ^ 32 = omega (arith, f.most) in
      let (s, read, _) = air-read (header_for sh) ks sound sized few in
      let back = packets-back (header_for sh) ks sound sized few s read in
      let text : text_of sh (packets_in p (header_for sh) s) ≡ text_of sh ks = ap (text_of sh) back in
      subst (λ (z : List ℕ). WriteTextOutcome p before z (gives tt)) text
      (text-written p before (header_for sh) s (plain-written sh ks s read) (all_named s read back) (size ∙ ap length (sym text)))

-- ---- back from a text to its pack, and from a pack to its text

text-told : (p : List ℕ) (n : ℕ) (h : Header) (s : Section) → write_text_checked p n ≡ passes (h, s) → plain_air_of p ≡ passes (h, s)
unfolding write_text_checked
text-told p n h s e =
    let (air, read, rest) = then-passed (plain_air_of p) _ (h, s) e in
    read ∙ (check-passed _ 4 (passes air) (h, s) rest).1

module _ (p : List ℕ) (h : Header) (s : Section) (read : air_of p ≡ passes (h, s)) where
  read-formed : ((i : ℕ) → get_or p i 0 < 256) → (i : ℕ) → i < s.count → Formed h.shape.w (packet_in p h s i)
  read-formed small i l =
      let o = packet_in-bytes p h s read small i l in
      record {
        a_digits = omega (arith, o.a_byte);
        b_digits = omega (arith, o.b_byte);
        c_digits = omega (arith, o.c_byte);
        size = packet_in-size p h s read i l;
        bytes = o.cell_bytes;
      }

  -- what a pack is read as is in the form
  pub read-in-form : ((i : ℕ) → get_or p i 0 < 256) → InForm h.shape (packets_in p h s)
  read-in-form small =
      let v = (air-sound p h s read).header.valid in
      let count = packets_in-length p h s in
      record {
        numbers = record {
          l1_digits = omega (arith, v.l1_high);
          l2_digits = omega (arith, v.l2_high);
          l3_digits = omega (arith, v.l3_high);
          w_digits = omega (arith, v.w_high);
        };
        packets = λ (i : ℕ) (l : i < length (packets_in p h s)).
            let k : i < s.count = omega arith in rw (packets_in-at p h s i k) (read-formed small i k);
        most = omega (arith, (air-sound p h s read).few small);
      }

  read-inside : FirstOutside p h s s.count → AllInside h.shape (packets_in p h s)
  read-inside all i l =
      let k : i < s.count = omega (arith, packets_in-length p h s) in
      let (a, b, c) = named-in-range p h s read i (all.before i k) in
      rw (packets_in-at p h s i k) (record { first = a; second = b; third = c })

pub reads-back : ReadsBack
unfolding ReadsBack text_in header_for header_with
reads-back p before t q q' v small (write_done h s checks all text) o size =
    let plain = text-told p (length before) h s checks in
    let read = plain-air p h s plain in
    let sound = (air-sound p h s read).header in
    let ks = packets_in p h s in
    let back : p ≡ air_pack (header_for h.shape) ks = air-back p h s read small ∙ ap (λ (g : Header). air_pack g ks) (plain-header p h s plain) in
    let long = size ∙ ap length back ∙ air-length (header_for h.shape) ks (inl refl) (packets_in-sized p h s read) in
    let met = pack_made h.shape ks (read-in-form p h s read small) sound.valid sound.room (read-inside p h s read all) q long in
    let (value, pack) = read-text-determined (text_of h.shape ks) q q' (air_pack (header_for h.shape) ks) v (gives tt) (rw text at o) met in
    (value, pack ∙ sym back)

pub writes-back : WritesBack
unfolding WritesBack
writes-back t q p before t' v (read_done sh ks f e checks all pack) o size =
    let (valid, room, _) = start-passed sh (length ks) (length q) checks in
    let met = text-made sh ks f valid room all before (size ∙ ap length e) in
    let (value, text) = write-text-determined (air_pack (header_for sh) ks) before t' (text_of sh ks) v (gives tt) (rw pack at o) met in
    (value, text ∙ sym e)
