-- The calls on texts (request P1): what they answer and leave for every input.
use Rattle.std.specs.Prelude.{◌≡◌, List, ℕ, ◌<◌, eqb, length}
use Rattle.answer.specs.Values.{Value, gives, refused, refused_at, Checked, passes, fails, check, checked, and_then}
use Rattle.shape.specs.declared.Shape.{Shape}
use Rattle.pack.specs.declared.Header.{Header}
use Rattle.pack.specs.declared.Section.{Section}
use Rattle.pack.specs.Packs.{Packet, air_pack}
use Rattle.pack.specs.Reading.{header_for, plain_air_of}
use Rattle.pack.specs.Packets.{packets_in, packet_no, FirstOutside}
use Rattle.pack_writer.specs.Writing.{air_size_checked, start_checked}
use Rattle.text.specs.Form.{text_of, InForm, Broken}

-- ---- from a pack to its text

-- the text of a pack that was read
unfoldable pub text_in : List ℕ → Header × Section → List ℕ
text_in p air = text_of air.0.shape (packets_in p air.0 air.1)

-- The pack's checks, then 4 for the text. Request P5: "the text twin keeps to count 5 and answers 7 otherwise".
unfoldable pub write_text_checked : List ℕ → ℕ → Checked (Header × Section)
write_text_checked p text_length =
    and_then (plain_air_of p) (λ air.
    check (eqb text_length (length (text_in p air))) 4
    (passes air))

-- `write_text`: the slice becomes the text of the pack. A refusal changes no byte.
pub data WriteTextOutcome (p before after : List ℕ) : Value Unit → Type 0 where
  write_refused :
      (n : ℕ) → write_text_checked p (length before) ≡ fails n → after ≡ before → WriteTextOutcome p before after (refused n)
  write_outside :
      (h : Header) (s : Section) (i : ℕ) → write_text_checked p (length before) ≡ passes (h, s) → FirstOutside p h s i → i < s.count →
      after ≡ before → WriteTextOutcome p before after (refused_at 11 i)
  write_done :
      (h : Header) (s : Section) → write_text_checked p (length before) ≡ passes (h, s) → FirstOutside p h s s.count →
      after ≡ text_in p (h, s) → WriteTextOutcome p before after (gives tt)

-- `text_bytes`: the bytes of a pack's text
unfoldable pub text_size_checked : List ℕ → Checked ℕ
text_size_checked p = and_then (plain_air_of p) (λ air. passes (length (text_in p air)))

-- ---- from a text to its pack

-- a packet of a text in the form whose a, b and c are below their lengths
pub record Inside (sh : Shape) (k : Packet) : Type 0 where
  pub first : k.a < sh.l1
  pub second : k.b < sh.l2
  pub third : k.c < sh.l3

-- the first packet that names a cell outside the cube
pub record Outside (sh : Shape) (ks : List Packet) (i : ℕ) : Type 0 where
  pub bound : i < length ks
  pub before : (j : ℕ) → j < i → Inside sh (packet_no ks j)
  pub here : Inside sh (packet_no ks i) → ⊥

-- `read_text`: the slice becomes the air pack of the text, of count 5. "17, the first line that breaks this form …; the text reader then checks
-- 1, 2, 3, 10, 4 and 11." A refusal changes no byte.
pub data ReadTextOutcome (t before after : List ℕ) : Value Unit → Type 0 where
  read_broken : (n : ℕ) → Broken t n → after ≡ before → ReadTextOutcome t before after (refused_at 17 n)
  read_refused :
      (sh : Shape) (ks : List Packet) (n : ℕ) → InForm sh ks → t ≡ text_of sh ks →
      start_checked sh (length ks) (length before) ≡ fails n → after ≡ before → ReadTextOutcome t before after (refused n)
  read_outside :
      (sh : Shape) (ks : List Packet) (i : ℕ) → InForm sh ks → t ≡ text_of sh ks →
      start_checked sh (length ks) (length before) ≡ passes tt → Outside sh ks i → after ≡ before →
      ReadTextOutcome t before after (refused_at 11 i)
  read_done :
      (sh : Shape) (ks : List Packet) → InForm sh ks → t ≡ text_of sh ks →
      start_checked sh (length ks) (length before) ≡ passes tt → ((i : ℕ) → i < length ks → Inside sh (packet_no ks i)) →
      after ≡ air_pack (header_for sh) ks → ReadTextOutcome t before after (gives tt)

-- `text_pack_bytes`: the bytes of a text's pack
pub data PackSizeOutcome (t : List ℕ) : Value ℕ → Type 0 where
  size_broken : (n : ℕ) → Broken t n → PackSizeOutcome t (refused_at 17 n)
  size_found :
      (sh : Shape) (ks : List Packet) → InForm sh ks → t ≡ text_of sh ks →
      PackSizeOutcome t (checked (air_size_checked sh (length ks)))
