-- What the public calls answer and leave in lent memory, for every input.
use Rattle.std.specs.Prelude.{◌≡◌, Bool, List, ℕ, ◌+◌, ◌-◌, ◌≤◌, ◌<◌, eqb, leb, length}
use Rattle.answer.specs.Values.{Value, gives, refused, Checked, passes, fails, check, and_then}
use Rattle.shape.specs.declared.Shape.{Shape}
use Rattle.shape.specs.declared.Sizes.{Sizes}
use Rattle.span.specs.Span.{Copied, SetTo}
use Rattle.span.specs.Decision.{Decides}
use Rattle.shape.specs.Shapes.{both, capacity, shape_checked}
use Rattle.data.specs.Data.{data_of, held_data, ParityKept}

-- The checks 1, 2, 3, 4 of a call that is lent a data string and a cube.
unfoldable pub slices_checked : Shape → ℕ → ℕ → Checked Unit
slices_checked sh data_length cube_length =
    and_then (shape_checked sh) (λ z. check (both (eqb data_length z.capacity) (eqb cube_length z.bytes)) 4 (passes tt))

-- The same checks where only a cube is lent.
unfoldable pub cube_checked : Shape → ℕ → Checked Unit
cube_checked sh cube_length = and_then (shape_checked sh) (λ z. check (eqb cube_length z.bytes) 4 (passes tt))

-- The same checks where what passes answers the sizes of the cube.
unfoldable pub cube_sized : Shape → ℕ → Checked Sizes
cube_sized sh cube_length = and_then (shape_checked sh) (λ z. check (eqb cube_length z.bytes) 4 (passes z))

-- The checks where n bytes of the data string from `from` on are read into a slice from `to` on: 4 also where these are not n bytes of the data
-- string, or the slice has no room for them there.
unfoldable pub read_checked : Shape → ℕ → ℕ → ℕ → ℕ → ℕ → Checked Unit
read_checked sh cube_length out_length from to n =
    and_then (shape_checked sh)
    (λ z.
    check (eqb cube_length z.bytes) 4
    (check (leb (from + n) z.capacity) 4
    (check (leb (to + n) out_length) 4 (passes tt))))

-- The checks where n bytes of a slice from `from` on are written to the data string from `to` on: the same ones, the other way round.
abbrev pub write_checked : Shape → ℕ → ℕ → ℕ → ℕ → ℕ → Checked Unit
write_checked sh cube_length src_length from to n = read_checked sh cube_length src_length to from n

-- `extract`: the slice becomes the data string that the cube's data cells hold. A refusal changes no byte.
pub data ExtractOutcome (sh : Shape) (xs before after : List ℕ) : Value Unit → Type 0 where
  extract_refused :
      (n : ℕ) → slices_checked sh (length before) (length xs) ≡ fails n → after ≡ before →
      ExtractOutcome sh xs before after (refused n)
  extract_done :
      slices_checked sh (length before) (length xs) ≡ passes tt → after ≡ held_data sh xs →
      ExtractOutcome sh xs before after (gives tt)

-- `read_data`: n bytes of the data string stand in the slice, and every other byte is kept. A refusal changes no byte.
pub data ReadOutcome (sh : Shape) (xs : List ℕ) (from to n : ℕ) (before after : List ℕ) : Value Unit → Type 0 where
  read_refused :
      (k : ℕ) → read_checked sh (length xs) (length before) from to n ≡ fails k → after ≡ before →
      ReadOutcome sh xs from to n before after (refused k)
  read_done :
      read_checked sh (length xs) (length before) from to n ≡ passes tt → Copied (held_data sh xs) from before to n after →
      ReadOutcome sh xs from to n before after (gives tt)

-- `is_data_zero`: whether every byte of the data string from `from` on is 00h.
pub data ZeroOutcome (sh : Shape) (xs : List ℕ) (from : ℕ) : Value Bool → Type 0 where
  zero_refused : (n : ℕ) → cube_checked sh (length xs) ≡ fails n → ZeroOutcome sh xs from (refused n)
  zero_done :
      (b : Bool) → cube_checked sh (length xs) ≡ passes tt →
      Decides ((q : ℕ) → from ≤ q → q < capacity sh → data_of sh xs q ≡ 0) b → ZeroOutcome sh xs from (gives b)

-- `write_data`: n bytes of the slice stand in the data string, and every other byte of the cube is kept. A refusal changes no byte.
pub data WriteOutcome (sh : Shape) (src : List ℕ) (from to n : ℕ) (before after : List ℕ) : Value Unit → Type 0 where
  write_refused :
      (k : ℕ) → write_checked sh (length before) (length src) from to n ≡ fails k → after ≡ before →
      WriteOutcome sh src from to n before after (refused k)
  write_done :
      write_checked sh (length before) (length src) from to n ≡ passes tt →
      Copied src from (held_data sh before) to n (held_data sh after) → ParityKept sh before after →
      WriteOutcome sh src from to n before after (gives tt)

-- `set_data`: every byte of the data string from `from` on is v, none where it ends before, and every other byte of the cube is kept. A refusal
-- changes no byte.
pub data SetOutcome (sh : Shape) (from v : ℕ) (before after : List ℕ) : Value Unit → Type 0 where
  set_refused : (n : ℕ) → cube_checked sh (length before) ≡ fails n → after ≡ before → SetOutcome sh from v before after (refused n)
  set_done :
      cube_checked sh (length before) ≡ passes tt →
      SetTo (held_data sh before) from (capacity sh - from) v (held_data sh after) → ParityKept sh before after →
      SetOutcome sh from v before after (gives tt)
