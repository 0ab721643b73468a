-- The exported calls: a shape as four numbers, an answer as one word of 64 bits.
use Rattle.std.specs.Prelude.{◌≡◌, Bool, true, false, ℕ, ◌+◌, ◌*◌}
use Rattle.answer.specs.Values.{Value, gives, refused, refused_at, number_of}
use Rattle.shape.specs.declared.Shape.{Shape}
use Rattle.fill.specs.Fill.{CellsLeft, left}

unfoldable pub shape : ℕ → ℕ → ℕ → ℕ → Shape
shape l1 l2 l3 w = record { l1 = l1; l2 = l2; l3 = l3; w = w }

-- what comes with the number: the count that a result carries, or the place that a refusal names, 0 where it names none
unfoldable pub beside : {A : Type 0} → (A → ℕ) → Value A → ℕ
beside count (gives a) = count a
beside count (refused n) = 0
beside count (refused_at n i) = i

-- The word: the number in document 01's table in the low byte, 0 with a result, and above it what comes with the number.
unfoldable pub packed : {A : Type 0} → (A → ℕ) → Value A → ℕ
packed count v = number_of v + 256 * beside count v

-- An exported call: its word packs a value with which the library's call has ended.
pub record Exported {A : Type 0} (count : A → ℕ) (Outcome : Value A → Type 0) (word : ℕ) : Type 0 where
  pub value : Value A
  pub outcome : Outcome value
  pub word_packed : word ≡ packed count value

-- ---- the counts of the calls

-- none
unfoldable pub uncounted : {A : Type 0} → A → ℕ
uncounted a = 0

-- whether the bytes are a code cube
unfoldable pub truth : Bool → ℕ
truth true = 1
truth false = 0

-- "the answer carries K's size"
unfoldable pub cells_left : CellsLeft → ℕ
cells_left (left k) = k

-- a size
unfoldable pub whole : ℕ → ℕ
whole n = n
