-- The form of a text (request P1), as what a printer prints: "`shape L1 L2 L3 W`, then `packet a b c` and the bytes as two lower-case
-- hexadecimal digits each, single spaces, a newline after every line, packets in pack order".
use Rattle.std.specs.Prelude.{◌≡◌, ◌⊎◌, List, [], ◌∷◌, ◌++◌, ℕ, ◌+◌, ◌≤◌, ◌<◌, length, get_or}
use Rattle.shape.specs.declared.Shape.{Shape}
use Rattle.printing.specs.Text.{ascii, hex_byte, triple, shape_line}
use Rattle.pack.specs.Packs.{Packet}
use Rattle.pack.specs.Packets.{packet_no}

-- "the bytes as two lower-case hexadecimal digits each", a space before each
unfoldable pub hex_bytes : List ℕ → List ℕ
hex_bytes [] = []
hex_bytes (b ∷ bs) = 32 ∷ (hex_byte b ++ hex_bytes bs)

-- "`packet a b c` and the bytes", "a newline after every line"
unfoldable pub packet_line : Packet → List ℕ
packet_line k = triple (ascii "packet ") k.a k.b k.c ++ (hex_bytes k.bytes ++ ascii "\n")

unfoldable pub packet_lines : List Packet → List ℕ
packet_lines [] = []
packet_lines (k ∷ ks) = packet_line k ++ packet_lines ks

-- "`shape L1 L2 L3 W`"
unfoldable pub first_line : Shape → List ℕ
first_line sh = shape_line sh.l1 sh.l2 sh.l3 sh.w

-- the whole text
unfoldable pub text_of : Shape → List Packet → List ℕ
text_of sh ks = first_line sh ++ packet_lines ks

-- "decimals of one to five digits without leading zeros"
pub record Numbers (sh : Shape) : Type 0 where
  pub l1_digits : sh.l1 < 100000
  pub l2_digits : sh.l2 < 100000
  pub l3_digits : sh.l3 < 100000
  pub w_digits : sh.w < 100000

-- "W bytes on each packet line"
pub record Formed (w : ℕ) (k : Packet) : Type 0 where
  pub a_digits : k.a < 100000
  pub b_digits : k.b < 100000
  pub c_digits : k.c < 100000
  pub size : length k.bytes ≡ w
  pub bytes : (i : ℕ) → get_or k.bytes i 0 < 256

-- What a text in the form is made of. "at most 4,294,967,295" packets
pub record InForm (sh : Shape) (ks : List Packet) : Type 0 where
  pub numbers : Numbers sh
  pub packets : (i : ℕ) → i < length ks → Formed sh.w (packet_no ks i)
  pub most : length ks ≤ 4294967295

-- 17: "the first line that breaks this form, with its number from 1". The lines before it are in the form, and what follows them does not
-- begin with a line that may stand there.
pub data Broken (t : List ℕ) : ℕ → Type 0 where
  first_broken :
      ((sh : Shape) (rest : List ℕ) → Numbers sh → t ≡ first_line sh ++ rest → ⊥) →
      Broken t 1
  packet_broken :
      (sh : Shape) (ks : List Packet) (rest : List ℕ) → InForm sh ks → t ≡ text_of sh ks ++ rest → (rest ≡ [] → ⊥) →
      ((length ks ≡ 4294967295) ⊎ ((k : Packet) (more : List ℕ) → Formed sh.w k → rest ≡ packet_line k ++ more → ⊥)) →
      Broken t (length ks + 2)
