-- Printed text as the bytes of its characters (document 01, "Programs").
use Rattle.std.specs.Prelude.{cond, List, [], ◌∷◌, ◌++◌, ℕ, zero, suc, ◌+◌, ◌/◌, ◌%◌, ltb}
use Prim.Native.Char.{code}
use Prim.Native.String.{String, [] as none, ◌∷◌ as ◌then◌}

-- the characters of a text
abbrev pub ascii : String → List ℕ
ascii none = []
ascii (c then s) = code c ∷ ascii s

-- the decimal digits of n, the most significant first, without leading zeros: at most so many
unfoldable pub decimal_in : ℕ → ℕ → List ℕ
decimal_in zero n = []
decimal_in (suc most) n = cond (ltb n 10) ((48 + n) ∷ []) (decimal_in most (n / 10) ++ ((48 + n % 10) ∷ []))

-- 20 digits hold every number of 64 bits
unfoldable pub decimal : ℕ → List ℕ
decimal n = decimal_in 20 n

-- `0` to `9`, then `a` to `f`
unfoldable pub hex_digit : ℕ → ℕ
hex_digit d = cond (ltb d 10) (48 + d) (87 + d)

-- "two lower-case hexadecimal digits"
unfoldable pub hex_byte : ℕ → List ℕ
hex_byte b = hex_digit (b / 16) ∷ hex_digit (b % 16) ∷ []

-- a label, then a number
unfoldable pub numbered : List ℕ → ℕ → List ℕ
numbered label n = label ++ decimal n

-- a label and three numbers
unfoldable pub triple : List ℕ → ℕ → ℕ → ℕ → List ℕ
triple label a b c = numbered label a ++ (numbered (ascii " ") b ++ numbered (ascii " ") c)

-- "every printed line ends in a newline"
unfoldable pub number_line : List ℕ → ℕ → List ℕ
number_line label n = numbered label n ++ ascii "\n"

-- `shape L1 L2 L3 W`
unfoldable pub shape_line : ℕ → ℕ → ℕ → ℕ → List ℕ
shape_line l1 l2 l3 w = triple (ascii "shape ") l1 l2 l3 ++ number_line (ascii " ") w

-- "A refusal prints `refused n`"
unfoldable pub refused_line : ℕ → List ℕ
refused_line n = number_line (ascii "refused ") n

-- "Input above 65,536 bytes prints `too big`"
unfoldable pub too_big_line : List ℕ
too_big_line = ascii "too big\n"
