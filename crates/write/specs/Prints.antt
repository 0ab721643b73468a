-- Document 01, "Programs": what Write prints for an input, of which the first 65,537 bytes are read.
use Rattle.std.specs.Prelude.{◌≡◌, List, ℕ, ◌*◌, ◌≤◌, ◌<◌, length}
use Rattle.field.specs.Field.{reduction}
use Rattle.answer.specs.Values.{gives, passes, fails}
use Rattle.shape.specs.Shapes.{cells}
use Rattle.pack.specs.declared.Header.{Header}
use Rattle.pack.specs.declared.Section.{Section}
use Rattle.pack.specs.Packs.{pack_size}
use Rattle.pack.specs.Reading.{job_of}
use Rattle.writer.specs.Write.{WriteOutcome}
use Rattle.printing.specs.Text.{refused_line, too_big_line}

-- "Input above 65,536 bytes prints `too big` before any check; a cube or written pack above 65,536 bytes prints it in the place of 4." With unsent
-- cells (request P5) a pack can be smaller than its cube. "Write gives the pack's bytes."
pub data Prints (p : List ℕ) : List ℕ → Type 0 where
  input_too_big : 65536 < length p → Prints p too_big_line
  input_refused : (n : ℕ) → length p ≤ 65536 → job_of p ≡ fails n → Prints p (refused_line n)
  cube_too_big :
      (h : Header) (s : Section) → length p ≤ 65536 → job_of p ≡ passes (h, s) → 65536 < h.shape.w * cells h.shape →
      Prints p too_big_line
  pack_too_big :
      (h : Header) (s : Section) → length p ≤ 65536 → job_of p ≡ passes (h, s) → 65536 < pack_size h → Prints p too_big_line
  pack :
      (h : Header) (s : Section) → length p ≤ 65536 → job_of p ≡ passes (h, s) → h.shape.w * cells h.shape ≤ 65536 → pack_size h ≤ 65536 →
      (xs out xs' out' : List ℕ) → WriteOutcome reduction p xs out xs' out' (gives tt) → Prints p out'
