-- The writer (document 01, "Packs"): what `write_pack` answers and leaves for every input.
use Rattle.std.specs.Prelude.{◌≡◌, List, ℕ, eqb, length}
use Rattle.answer.specs.Values.{Value, gives, refused, Checked, passes, fails, check, and_then}
use Rattle.shape.specs.Shapes.{both}
use Rattle.cube.specs.Theorems.{OnlyCodeCube}
use Rattle.pack.specs.declared.Header.{Header}
use Rattle.pack.specs.declared.Section.{Section}
use Rattle.pack.specs.Packs.{air_pack, sent_packets, pack_size, data_string}
use Rattle.pack.specs.Reading.{job_of, file_of}

-- the pack's checks, then 4 for the cube and the output
unfoldable pub write_checked : List ℕ → ℕ → ℕ → Checked (Header × Section)
write_checked p cube_length output_length =
    and_then (job_of p) (λ job.
    check (both (eqb cube_length job.0.sizes.bytes) (eqb output_length (pack_size job.0))) 4
    (passes job))

-- What the writer leaves: "a cube, which afterwards holds the code cube" of the file's data string, and a pack "with section 2 count 0 and every
-- cell in cell order", of those that are sent. Request P5: "The writer takes the U it is given; what it writes keeps section 1".
pub record Written (r : ℕ) (h : Header) (file xs out : List ℕ) : Type 0 where
  pub cube : OnlyCodeCube r h.shape (data_string h.shape file) xs
  pub pack : out ≡ air_pack h (sent_packets h xs)

-- A refusal changes no lent byte.
pub data WriteOutcome (r : ℕ) (p xs out xs' out' : List ℕ) : Value Unit → Type 0 where
  write_refused :
      (n : ℕ) → write_checked p (length xs) (length out) ≡ fails n → xs' ≡ xs → out' ≡ out →
      WriteOutcome r p xs out xs' out' (refused n)
  write_done :
      (h : Header) (file : Section) → write_checked p (length xs) (length out) ≡ passes (h, file) →
      Written r h (file_of p file) xs' out' → WriteOutcome r p xs out xs' out' (gives tt)
