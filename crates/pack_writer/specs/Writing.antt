-- Writing (document 01, "Packs"): what the writing calls answer and leave for every input.
use Rattle.std.specs.Prelude.{◌≡◌, List, [], ◌∷◌, ℕ, ◌+◌, ◌*◌, ◌≤◌, ◌<◌, eqb, leb, length}
use Rattle.answer.specs.Values.{Value, gives, refused, Checked, passes, fails, check, and_then}
use Rattle.span.specs.Span.{Put}
use Rattle.shape.specs.declared.Shape.{Shape}
use Rattle.shape.specs.Shapes.{both, cells, shape_checked}
use Rattle.cursor.specs.declared.Cursor.{Cursor}
use Rattle.pack.specs.declared.Header.{Header}
use Rattle.pack.specs.Packs.{air_pack, air_head, sent_packets, air_size, pack_size}
use Rattle.pack.specs.Reading.{header_for, sent_checked}

-- the size of the written pack with count 5, where the shape has none of 1, 2, 3
unfoldable pub size_checked : Shape → Checked ℕ
size_checked sh = and_then (shape_checked sh) (λ z. passes (pack_size (header_for sh)))

-- Request P5: the size of the written pack, where section 1 can have the header (7, 1, 2, 3, 19).
unfoldable pub written_checked : Header → Checked ℕ
written_checked h = and_then (sent_checked h) (λ n. passes (air_size h n))

-- the size of an air pack of count 5 with so many packets, where the shape has none of 1, 2, 3 and room for a file's length (10)
unfoldable pub air_size_checked : Shape → ℕ → Checked ℕ
air_size_checked sh n =
    and_then (shape_checked sh) (λ z.
    check (leb 4 z.capacity) 10
    (passes (air_size (header_for sh) n)))

-- ---- parts, each from the byte where the one before ended

-- the list vs stands at the cursor, every other byte is kept, and the next cursor stands behind it
pub record Laid (before : List ℕ) (c : Cursor) (vs after : List ℕ) (next : Cursor) : Type 0 where
  pub put : Put before c.at vs after
  pub behind : next.at ≡ c.at + length vs

-- The checks 1, 2, 3, 10, 4 of a call that is lent an air pack of so many packets.
unfoldable pub start_checked : Shape → ℕ → ℕ → Checked Unit
start_checked sh n pack_length =
    and_then (air_size_checked sh n) (λ size.
    check (eqb pack_length size) 4
    (passes tt))

-- `start_air`: what stands before the packets begins the slice, and the cursor stands behind it. A refusal changes no byte.
pub data StartOutcome (sh : Shape) (n : ℕ) (before after : List ℕ) : Value Cursor → Type 0 where
  start_refused :
      (number : ℕ) → start_checked sh n (length before) ≡ fails number → after ≡ before →
      StartOutcome sh n before after (refused number)
  started :
      (c : Cursor) → start_checked sh n (length before) ≡ passes tt → Laid before (record { at = 0 }) (air_head (header_for sh) n) after c →
      StartOutcome sh n before after (gives c)

-- `write_coordinates`: a, b and c at the cursor, where three bytes from there on lie in the slice; else every byte and the cursor are kept.
pub data CoordinatesOutcome (before : List ℕ) (at : Cursor) (a b c : ℕ) (after : List ℕ) (next : Cursor) : Type 0 where
  coordinates_written :
      at.at + 3 ≤ length before → Laid before at (a ∷ b ∷ c ∷ []) after next → CoordinatesOutcome before at a b c after next
  coordinates_outside :
      length before < at.at + 3 → after ≡ before → next ≡ at → CoordinatesOutcome before at a b c after next

-- ---- whole packs

-- The checks 7, 1, 2, 3, 19, 4 of a call that is lent a cube and the pack of its cells.
unfoldable pub air_checked : Header → ℕ → ℕ → Checked Unit
air_checked h cube_length pack_length =
    and_then (written_checked h) (λ size.
    check (both (eqb cube_length (h.shape.w * cells h.shape)) (eqb pack_length size)) 4
    (passes tt))

-- `write_air`: the slice becomes the air pack of every cell of the cube that is sent. A refusal changes no byte.
pub data AirOutcome (h : Header) (xs before after : List ℕ) : Value Unit → Type 0 where
  air_kept :
      (n : ℕ) → air_checked h (length xs) (length before) ≡ fails n → after ≡ before →
      AirOutcome h xs before after (refused n)
  air_written :
      air_checked h (length xs) (length before) ≡ passes tt → after ≡ air_pack h (sent_packets h xs) →
      AirOutcome h xs before after (gives tt)
