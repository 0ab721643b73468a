-- What the functions of `lines` answer.
use Rattle.std.specs.Prelude.{◌≡◌, cond, List, [], ◌∷◌, ℕ, zero, suc, ◌+◌, ◌*◌, ◌/◌, ◌%◌, ◌≤◌, ◌<◌, ltb, eqb, length, get_or, Option, Some, None}
use Rattle.shape.specs.declared.Shape.{Shape}
use Rattle.pack.specs.Packs.{Packet}
use Rattle.printing.specs.Text.{triple}
use Rattle.text.specs.Form.{packet_line, first_line, Formed, Numbers}
use Rattle.text.specs.Inner.Numbers.{NoDigit, Short, Found, Never}

-- anything may follow
abbrev pub Any : List ℕ → Type 0
Any rest = Unit

-- ---- the bytes of a packet line

-- `0` to `9`, then `a` to `f`
pub data HexChar (c : ℕ) : Type 0 where
  digit : 48 ≤ c → c < 58 → HexChar c
  letter : 97 ≤ c → c < 103 → HexChar c

-- the value of a hexadecimal digit
unfoldable pub hex_value : ℕ → ℕ
hex_value c = c % 16 + 9 * (c / 64)

-- the kind of a character: 0 for a hexadecimal digit, 1 for a space, 2 for any other
unfoldable pub char_kind : ℕ → ℕ
char_kind c = cond (ltb c 48) (cond (eqb c 32) 1 2) (cond (ltb c 58) 0 (cond (ltb c 97) 2 (cond (ltb c 103) 0 2)))

-- a space and two hexadecimal digits stand at a place, by their kinds
pub record Pair (t : List ℕ) (at : ℕ) : Type 0 where
  pub space : char_kind (get_or t at 0) ≡ 1
  pub high : char_kind (get_or t (at + 1) 0) ≡ 0
  pub low : char_kind (get_or t (at + 2) 0) ≡ 0

-- w of them
abbrev pub Pairs : List ℕ → ℕ → ℕ → Type 0
Pairs t at w = (i : ℕ) → i < w → Pair t (at + 3 * i)

-- w of them and a newline
pub record HexLine (w : ℕ) (t : List ℕ) (at : ℕ) : Type 0 where
  pub inside : at + 3 * w < length t
  pub newline : get_or t (at + 3 * w) 0 ≡ 10
  pub pairs : Pairs t at w

-- "W bytes"
abbrev pub Bytes : ℕ → List ℕ → Type 0
Bytes w bs = (length bs ≡ w) × ((i : ℕ) → get_or bs i 0 < 256)

-- the byte whose space stands at a place
unfoldable pub pair_byte : List ℕ → ℕ → ℕ
pair_byte t at = 16 * hex_value (get_or t (at + 1) 0) + hex_value (get_or t (at + 2) 0)

unfoldable pub pair_bytes : List ℕ → ℕ → ℕ → List ℕ
pair_bytes t at zero = []
pair_bytes t at (suc w) = pair_byte t at ∷ pair_bytes t (at + 3) w

-- ---- labels, numbers, lines

abbrev pub three_of : List ℕ → ℕ × (ℕ × ℕ) → List ℕ
three_of label z = triple label z.0 z.1.0 z.1.1

abbrev pub ThreeShort : ℕ × (ℕ × ℕ) → Type 0
ThreeShort z = Short z.0 × (Short z.1.0 × Short z.1.1)

pub data ThreeOutcome (label t : List ℕ) (at : ℕ) : Option (ℕ × ℕ × ℕ × ℕ) → Type 0 where
  three_found : (a b c end : ℕ) → Found (three_of label) ThreeShort NoDigit t at (a, (b, c)) end → ThreeOutcome label t at (Some (a, b, c, end))
  three_nothing : Never (three_of label) ThreeShort NoDigit t at → ThreeOutcome label t at None

pub data PacketLineOutcome (w : ℕ) (t : List ℕ) (at : ℕ) : Option (ℕ × ℕ × ℕ × ℕ) → Type 0 where
  packet_found :
      (k : Packet) (end : ℕ) → Found packet_line (Formed w) Any t at k end → PacketLineOutcome w t at (Some (k.a, k.b, k.c, end))
  packet_nothing : Never packet_line (Formed w) Any t at → PacketLineOutcome w t at None

pub data ShapeLineOutcome (t : List ℕ) : Option (Shape × ℕ) → Type 0 where
  shape_found : (sh : Shape) (end : ℕ) → Found first_line Numbers Any t 0 sh end → ShapeLineOutcome t (Some (sh, end))
  shape_nothing : Never first_line Numbers Any t 0 → ShapeLineOutcome t None
