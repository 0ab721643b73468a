-- A single missing cell may contradict the others: document 01's own example does. And damage that mending does and does not undo, in document 01's
-- own cube: the same error in the eight cells of a box leaves two wrong bytes with first sum 00h on every line that meets it, so that no pass changes
-- anything; without one of the eight each pass has a line with a single wrong byte, and the box is gone after the third.
use mathlib.Core.Path.{◌≡◌, refl}
use mathlib.Core.Bool.{Bool, true}
use mathlib.Core.List.{List}
use Prim.Native.Nat.{ℕ, ◌<◌}
use native.Mathlib.Omega.{arith}
use lib.Dec.{eqb}
use lib.ListN.{replicate}
use borrow.Author.Tests.{eqb-true}
use Rattle.answer.specs.Values.{Value, gives, refused, check, and_then}
use Rattle.field.specs.Field.{add, reduction, xtime, mul_bits, mul, pow}
use Rattle.solver.specs.Solver.{pick, error_place}
use Rattle.line.specs.Line.{syndrome0, syndrome1, corrected}
use Rattle.shape.specs.Shapes.{cells, cell, both, within, lengths_fit, sizes, shape_checked, along, axis1}
use Rattle.shape.specs.Flags.{missing, none_missing, flags_valid}
use Rattle.shape.proofs.Valid.{both-parts}
use Rattle.stopping.specs.Stopping.{number}
use Rattle.data.specs.Data.{layer}
use Rattle.cube.specs.Cube.{layer_line, CodeCube}
use Rattle.mend.specs.Mend.{mend_checked, whole_checked, MendOutcome, mend_done}
use Rattle.mend.specs.Theorems.{wrong_byte}
use Rattle.examples.specs.Examples.{Holds, Each, smallest, planes, made, examples}
use Rattle.examples.specs.Wrong.{third_needed}
use Rattle.examples.specs.Theorems.{SingleContradicts, Damaged, SevenTight}
use Rattle.examples.proofs.Tests.{passes?, all, all₂, axis_lines, all_lines, bytes?, bytes?-sound, codeword?, line?, code_cube?}
use Rattle.examples.proofs.Mending.{corrects?, pass?, mended?, mended?-sound, unchanged?, unchanged?-sound}
use Rattle.examples.proofs.Hold.{examples-hold}

pub single-contradicts : SingleContradicts
unfolding SingleContradicts examples Each Holds smallest made cells cell missing number
single-contradicts = (_, _, _, _, _, refl, examples-hold.1.1.1.1.1.1.1.1.1.0)

-- ---- a box of 2 by 2 by 2, the error 01h in each cell

-- four of its cells in plane 0, two in plane 1; three there; four
unfoldable six : List ℕ
six = made 0 0 1 0x0D (made 1 0 1 0x0B third_needed)

unfoldable seven : List ℕ
seven = made 0 1 1 0x0B six

unfoldable eight : List ℕ
eight = made 1 1 1 0x0E seven

seven-mended : mended? smallest seven (replicate 27 0) (replicate 27 0xFF) six third_needed planes ≡ true
unfolding smallest planes made third_needed six seven
    add reduction xtime mul_bits mul pow syndrome0 syndrome1 cells cell layer layer_line both all all₂ axis_lines all_lines
    bytes? codeword? line? code_cube? within lengths_fit sizes shape_checked check and_then passes?
    pick error_place corrected none_missing flags_valid whole_checked mend_checked corrects? pass? mended?
seven-mended = refl

eight-unchanged : unchanged? smallest eight (replicate 27 0) (replicate 27 0xFF) ≡ true
unfolding smallest planes made third_needed six seven eight
    add reduction xtime mul_bits mul pow syndrome0 syndrome1 cells cell layer layer_line both all all₂ axis_lines
    within lengths_fit sizes shape_checked check and_then passes?
    pick error_place corrected none_missing flags_valid whole_checked mend_checked corrects? pass? unchanged?
eight-unchanged = refl

-- the second sum of its first row is not 00h
eight-wrong : CodeCube reduction smallest eight → ⊥
unfolding smallest planes made third_needed six seven eight cell layer layer_line add reduction xtime mul_bits mul pow syndrome1
eight-wrong code =
    let three : ◌≡◌ {A = ℕ} 3 0 = (code.lines _ _ _ (along (axis1 0 0 (omega arith) (omega arith))) 0 (omega arith)).second in
    omega arith

-- what is mended is a code cube
mended-code : {xs fs before after : List ℕ} → MendOutcome reduction smallest xs fs before after (gives tt) → CodeCube reduction smallest after
mended-code (mend_done e p code) = code

seven-outcome : MendOutcome reduction smallest seven (replicate 27 0) (replicate 27 0xFF) planes (gives tt)
seven-outcome = mended?-sound smallest seven (replicate 27 0) (replicate 27 0xFF) six third_needed planes seven-mended

-- there is one layer
only : (w : ℕ) → w < smallest.w → w ≡ 0
unfolding smallest
only w l = omega arith

-- xs are bytes, so many of them wrong
unfoldable damaged? : (xs : List ℕ) → (count : ℕ) → Bool
damaged? xs count = both (bytes? xs) (eqb (number (wrong_byte smallest xs planes 0) (cells smallest)) count)

damaged?-sound : (xs : List ℕ) (count : ℕ) (after : List ℕ) (value : Value Unit) → damaged? xs count ≡ true
    → MendOutcome reduction smallest xs (replicate 27 0) (replicate 27 0xFF) after value → Damaged count value
unfolding damaged?
damaged?-sound xs count after value h outcome =
    let (bytes, number) = both-parts (bytes? xs) _ h in
    record {
      sh = smallest;
      xs = xs;
      zs = planes;
      fs = replicate 27 0;
      before = replicate 27 0xFF;
      after = after;
      bytes = bytes?-sound xs bytes;
      code = mended-code seven-outcome;
      count_wrong = λ w l. rw (only w l) (eqb-true _ _ number);
      mends = outcome;
    }

seven-damaged : damaged? seven 7 ≡ true
unfolding smallest planes made third_needed six seven cells cell layer both bytes? number wrong_byte damaged?
seven-damaged = refl

eight-damaged : damaged? eight 8 ≡ true
unfolding smallest planes made third_needed six seven eight cells cell layer both bytes? number wrong_byte damaged?
eight-damaged = refl

pub seven-tight : SevenTight
seven-tight =
    record {
      seven = damaged?-sound seven 7 planes (gives tt) seven-damaged seven-outcome;
      eight =
          damaged?-sound eight 8 (replicate 27 0) (refused 16) eight-damaged
          (unchanged?-sound smallest eight (replicate 27 0) (replicate 27 0xFF) eight-unchanged eight-wrong);
    }
