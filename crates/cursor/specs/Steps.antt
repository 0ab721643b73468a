-- The steps of reading (document 01, "Where each refusal is checked"): "Sections are read one after another, each from the byte where the one
-- before ended". Each is a row of the table; what comes next is a function of what was read and of the cursor behind it.
use Rattle.std.specs.Prelude.{List, [], ◌∷◌, ℕ, ◌+◌, ◌*◌, ◌/◌, ◌%◌, leb, length, get_or}
use Rattle.answer.specs.Values.{Checked, check}
use Rattle.cursor.specs.declared.Cursor.{Cursor}

-- "four bytes, low first": the number that stands at a place of a pack
unfoldable pub word : List ℕ → ℕ → ℕ
word p at = get_or p at 0 + 256 * get_or p (at + 1) 0 + 65536 * get_or p (at + 2) 0 + 16777216 * get_or p (at + 3) 0

-- the four bytes of a number
unfoldable pub word_bytes : ℕ → List ℕ
word_bytes n = n % 256 ∷ n / 256 % 256 ∷ n / 65536 % 256 ∷ n / 16777216 % 256 ∷ []

-- a count: "pack ends inside a count or section (every section)"
unfoldable pub count : {A : Type 0} → List ℕ → Cursor → (ℕ → Cursor → Checked A) → Checked A
count p c next = check (leb (c.at + 4) (length p)) 6 (next (word p c.at) (record { at = c.at + 4 }))

-- a section of n bytes: where it begins
unfoldable pub bytes : {A : Type 0} → List ℕ → Cursor → ℕ → (ℕ → Cursor → Checked A) → Checked A
bytes p c n next = check (leb (c.at + n) (length p)) 6 (next c.at (record { at = c.at + n }))
