-- The wrong outcomes of specs/Wrong.antt are excluded: a contract determines answer and memory, and the right ones are others.
use mathlib.Core.Path.{◌≡◌, refl, ap}
use mathlib.Core.Bool.{true}
use mathlib.Core.List.{List, [], ◌∷◌}
use Prim.Native.Nat.{ℕ}
use native.Mathlib.Omega.{arith}
use lib.ListN.{get_or, replicate}
use Rattle.answer.specs.Values.{Value, gives, refused, check, and_then}
use Rattle.answer.proofs.Values.{gives-refused}
use Rattle.field.specs.Field.{add, reduction, xtime, mul_bits, mul, pow}
use Rattle.field.proofs.Primitive.{primitive}
use Rattle.solver.specs.Solver.{pick, error_place}
use Rattle.line.specs.Line.{syndrome0, syndrome1, corrected}
use Rattle.shape.specs.Shapes.{cells, both, within, lengths_fit, sizes, shape_checked, cell}
use Rattle.shape.specs.Flags.{none_missing, flags_valid}
use Rattle.data.specs.Data.{layer}
use Rattle.cube.specs.Cube.{layer_line}
use Rattle.cube.specs.Calls.{EncodeOutcome}
use Rattle.cube.proofs.Outcomes.{encode-determined}
use Rattle.fill.specs.Fill.{CellsLeft, left, FillOutcome}
use Rattle.fill.proofs.Unique.{outcome-determined}
use Rattle.mend.specs.Mend.{mend_checked, whole_checked, MendOutcome}
use Rattle.mend.proofs.Mending.{outcome-determined as mend-determined}
use Rattle.examples.specs.Examples.{Holds, Each, smallest, planes, made, last_known, last_known_flags, examples}
use Rattle.examples.specs.Wrong.{Excluded, second_needed, third_needed, wrong}
use Rattle.examples.proofs.Tests.{passes?, all, all₂, axis_lines, all_lines, bytes?, codeword?, line?, code_cube?}
use Rattle.examples.proofs.Mending.{corrects?, pass?, mended?, mended?-sound}
use Rattle.examples.proofs.Hold.{examples-hold}

-- ---- filling

-- the paper's cube of which one cell is known is filled, and nothing is left
last-filled : FillOutcome reduction smallest last_known last_known_flags planes (replicate 27 0) (gives (left 0))
unfolding examples Each Holds
last-filled = examples-hold.1.1.1.1.1.0

other-fill : (xs' fs' : List ℕ) (value : Value CellsLeft) → (gives (left 0) ≡ value → ⊥)
    → FillOutcome reduction smallest last_known last_known_flags xs' fs' value → ⊥
other-fill xs' fs' value other o = other (outcome-determined primitive last-filled o).answer

other-count : (n : ℕ) → gives (left 0) ≡ gives (left n) → 0 ≡ n
other-count n e = cc

-- ---- encoding

-- the paper's cube has parity: 0Ch in its second cell
parity-given : planes ≡ made 0 0 0 0x08 (replicate 27 0x00) → ⊥
unfolding planes made cell smallest
parity-given e = let n : ◌≡◌ {A = ℕ} 0x0C 0x00 = ap (λ (xs : List ℕ). get_or xs 1 0) e in omega arith

planes-encoded : EncodeOutcome reduction smallest (0x08 ∷ []) (replicate 27 0xFF) planes (gives tt)
unfolding examples Each Holds
planes-encoded = examples-hold.1.1.1.1.0

-- ---- mending

-- what the passes before leave as it is, the pass by axis 2 mends
second-passes : mended? smallest second_needed (replicate 27 0) (replicate 27 0xFF) second_needed planes planes ≡ true
unfolding smallest planes made second_needed
    add reduction xtime mul_bits mul pow syndrome0 syndrome1 cells cell layer layer_line both all all₂ axis_lines all_lines
    bytes? codeword? line? code_cube? within lengths_fit sizes shape_checked check and_then passes?
    pick error_place corrected none_missing flags_valid whole_checked mend_checked corrects? pass? mended?
second-passes = refl

-- or the pass by axis 3
third-passes : mended? smallest third_needed (replicate 27 0) (replicate 27 0xFF) third_needed third_needed planes ≡ true
unfolding smallest planes made third_needed
    add reduction xtime mul_bits mul pow syndrome0 syndrome1 cells cell layer layer_line both all all₂ axis_lines all_lines
    bytes? codeword? line? code_cube? within lengths_fit sizes shape_checked check and_then passes?
    pick error_place corrected none_missing flags_valid whole_checked mend_checked corrects? pass? mended?
third-passes = refl

not-uncorrected : (xs before after1 after2 zs : List ℕ) → mended? smallest xs (replicate 27 0) before after1 after2 planes ≡ true
    → MendOutcome reduction smallest xs (replicate 27 0) before zs (refused 16) → ⊥
not-uncorrected xs before after1 after2 zs h o =
    gives-refused tt 16 (mend-determined (mended?-sound smallest xs (replicate 27 0) before after1 after2 planes h) o).0

-- ---- the theorem

pub wrong-excluded : Each Excluded wrong
unfolding wrong Each Excluded Holds
wrong-excluded = (
  other-fill _ _ _ (λ e. let n : ◌≡◌ {A = ℕ} 0 26 = other-count 26 e in omega arith),
  (
    other-fill _ _ _ (λ e. let n : ◌≡◌ {A = ℕ} 0 27 = other-count 27 e in omega arith),
    (
      other-fill _ _ _ (gives-refused (left 0) 13),
      (
        λ o. parity-given (encode-determined planes-encoded o).1,
        (
          not-uncorrected second_needed _ second_needed planes _ second-passes,
          (
            not-uncorrected third_needed _ third_needed third_needed _ third-passes,
            tt,
          ),
        ),
      ),
    ),
  ),
)
