-- Mending (document 01, "Mending"): single-error correction of every line, axis by axis, and what the calls answer and leave for every input. r is
-- the field's reduction byte.
use Rattle.std.specs.Prelude.{◌≡◌, List, ℕ, ◌+◌, ◌*◌, ◌<◌, eqb, length, replicate}
use Rattle.answer.specs.Values.{Value, gives, refused, Checked, passes, fails, check, and_then}
use Rattle.shape.specs.declared.Shape.{Shape}
use Rattle.shape.specs.Shapes.{both, within, shape_checked, AxisLine}
use Rattle.shape.specs.Flags.{flags_valid, none_missing}
use Rattle.line.specs.Line.{corrected}
use Rattle.data.specs.Data.{layer}
use Rattle.cube.specs.Cube.{layer_line, CodeCube}
use Rattle.data.specs.Calls.{cube_checked}

-- "Pass by axis …; each line of each layer by itself": ys is xs after the pass of one axis.
pub record Pass (r : ℕ) (sh : Shape) (axis : ℕ) (xs ys : List ℕ) : Type 0 where
  pub size : length ys ≡ length xs
  pub lines :
      (first stride len : ℕ) → AxisLine sh axis first stride len → (w i : ℕ) → w < sh.w → i < len →
      layer sh ys w (first + stride * i) ≡ corrected r len (layer_line sh xs w first stride) i

-- "Pass by axis 1, 2, 3"
pub record Passes (r : ℕ) (sh : Shape) (xs ys : List ℕ) : Type 0 where
  pub after1 : List ℕ
  pub after2 : List ℕ
  pub pass1 : Pass r sh 1 xs after1
  pub pass2 : Pass r sh 2 after1 after2
  pub pass3 : Pass r sh 3 after2 ys

-- The checks of one pass: 1 (the axis number or a length), 2, 3, 4.
unfoldable pub axis_checked : Shape → ℕ → ℕ → Checked Unit
axis_checked sh axis cube_length = check (within 1 3 axis) 1 (cube_checked sh cube_length)

-- `mend_axis`, one pass: the cube after that pass. A refusal changes no byte.
pub data AxisOutcome (r : ℕ) (sh : Shape) (axis : ℕ) (before after : List ℕ) : Value Unit → Type 0 where
  axis_refused :
      (n : ℕ) → axis_checked sh axis (length before) ≡ fails n → after ≡ before →
      AxisOutcome r sh axis before after (refused n)
  axis_done :
      axis_checked sh axis (length before) ≡ passes tt → Pass r sh axis before after →
      AxisOutcome r sh axis before after (gives tt)

-- The checks of the flags: 5 of all of them (request P5: "5 a flag above 2"), then 15. A flag 2 stands for a known cell, which is mended like any
-- other.
unfoldable pub whole_checked : List ℕ → Checked Unit
whole_checked fs = check (flags_valid fs) 5 (check (none_missing fs) 15 (passes tt))

-- The checks of `mend`: 1, 2, 3, 4, then the flags.
unfoldable pub mend_checked : Shape → ℕ → List ℕ → ℕ → Checked Unit
mend_checked sh cube_length fs second_length =
    and_then (shape_checked sh) (λ z.
    check (both (eqb cube_length z.bytes) (both (eqb (length fs) z.cells) (eqb second_length z.bytes))) 4
    (whole_checked fs))

-- "The result is written if it is a code cube, else refusal 16." "16: second cube all 00h"; any other refusal changes no byte.
pub data MendOutcome (r : ℕ) (sh : Shape) (xs fs before after : List ℕ) : Value Unit → Type 0 where
  mend_refused :
      (n : ℕ) → mend_checked sh (length xs) fs (length before) ≡ fails n → after ≡ before →
      MendOutcome r sh xs fs before after (refused n)
  mend_done :
      mend_checked sh (length xs) fs (length before) ≡ passes tt → Passes r sh xs after → CodeCube r sh after →
      MendOutcome r sh xs fs before after (gives tt)
  mend_uncorrected :
      mend_checked sh (length xs) fs (length before) ≡ passes tt →
      (ys : List ℕ) → Passes r sh xs ys → (CodeCube r sh ys → ⊥) → after ≡ replicate (length before) 0 →
      MendOutcome r sh xs fs before after (refused 16)
