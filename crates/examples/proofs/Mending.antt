-- Mending, computed: a test of one pass, line by line, and of the outcome of `mend` by its three passes; and that a line with two nonzero sums whose
-- j is at or past its end has no place to mend.
use mathlib.Core.Path.{◌≡◌, refl, sym, ◌∙◌}
use mathlib.Core.Bool.{Bool, true, false, false≢true}
use mathlib.Core.List.{List}
use Prim.Native.Nat.{ℕ, ◌+◌, ◌*◌, ◌≤◌, ◌<◌}
use native.Mathlib.Omega.{arith}
use lib.Dec.{eqb, leb, ltb}
use lib.ListN.{length, replicate}
use borrow.Author.Tests.{eqb-true, leb-true, ltb-true}
use Rattle.answer.specs.Values.{Value, gives, refused, refused_at}
use Rattle.field.specs.Field.{reduction, mul, pow}
use Rattle.field.proofs.Primitive.{primitive}
use Rattle.solver.specs.Solver.{ErrorAt}
use Rattle.line.specs.Line.{syndrome0, syndrome1, corrected}
use Rattle.solver.proofs.Places.{factor-unique}
use Rattle.line.proofs.Error.{corrected-none}
use Rattle.shape.specs.declared.Shape.{Shape}
use Rattle.shape.specs.Shapes.{both}
use Rattle.shape.proofs.Valid.{both-parts}
use Rattle.data.specs.Data.{layer}
use Rattle.cube.specs.Cube.{layer_line, CodeCube}
use Rattle.mend.specs.Mend.{Pass, mend_checked, MendOutcome, mend_done, mend_uncorrected}
use Rattle.examples.proofs.Tests.{passes?, passes?-sound, all₂, all₂-sound, axis_lines, axis_lines-sound, code_cube?, code_cube?-sound}

-- ---- one pass

-- ys has a line of xs corrected, in every layer
unfoldable pub corrects? : ℕ → Shape → (xs ys : List ℕ) → (first stride len : ℕ) → Bool
corrects? r sh xs ys first stride len =
    all₂ sh.w len (λ w i. eqb (layer sh ys w (first + stride * i)) (corrected r len (layer_line sh xs w first stride) i))

unfoldable pub pass? : ℕ → Shape → ℕ → (xs ys : List ℕ) → Bool
pass? r sh axis xs ys = both (eqb (length ys) (length xs)) (axis_lines sh axis (corrects? r sh xs ys))

pass?-sound : (r : ℕ) (sh : Shape) (axis : ℕ) (xs ys : List ℕ) → pass? r sh axis xs ys ≡ true → Pass r sh axis xs ys
unfolding pass? corrects?
pass?-sound r sh axis xs ys h =
    let (size, lines) = both-parts (eqb (length ys) (length xs)) _ h in
    record {
      size = eqb-true _ _ size;
      lines = λ f s n l w i lw li. eqb-true _ _ (all₂-sound sh.w n _ (axis_lines-sound sh axis _ lines f s n l) w i lw li);
    }

-- ---- what `mend` answers and leaves

-- by the cubes after the first pass and after the second
unfoldable pub mended? : Shape → (xs fs before after1 after2 after : List ℕ) → Bool
mended? sh xs fs before after1 after2 after =
    both (passes? (mend_checked sh (length xs) fs (length before)))
    (both (both (pass? reduction sh 1 xs after1) (both (pass? reduction sh 2 after1 after2) (pass? reduction sh 3 after2 after)))
    (code_cube? reduction sh after))

pub mended?-sound : (sh : Shape) (xs fs before after1 after2 after : List ℕ) → mended? sh xs fs before after1 after2 after ≡ true
    → MendOutcome reduction sh xs fs before after (gives tt)
unfolding mended?
mended?-sound sh xs fs before after1 after2 after h =
    let (checks, h1) = both-parts (passes? (mend_checked sh (length xs) fs (length before))) _ h in
    let (three, code) = both-parts _ (code_cube? reduction sh after) h1 in
    let (one, h2) = both-parts (pass? reduction sh 1 xs after1) _ three in
    let (two, last) = both-parts (pass? reduction sh 2 after1 after2) _ h2 in
    mend_done (passes?-sound _ checks)
    (record {
      after1 = after1;
      after2 = after2;
      pass1 = pass?-sound reduction sh 1 xs after1 one;
      pass2 = pass?-sound reduction sh 2 after1 after2 two;
      pass3 = pass?-sound reduction sh 3 after2 after last;
    }) (code_cube?-sound reduction sh after code)

-- every pass keeps the cube's bytes
unfoldable pub unchanged? : Shape → (xs fs before : List ℕ) → Bool
unchanged? sh xs fs before =
    both (passes? (mend_checked sh (length xs) fs (length before)))
    (both (pass? reduction sh 1 xs xs) (both (pass? reduction sh 2 xs xs) (pass? reduction sh 3 xs xs)))

pub unchanged?-sound : (sh : Shape) (xs fs before : List ℕ) → unchanged? sh xs fs before ≡ true → (CodeCube reduction sh xs → ⊥)
    → MendOutcome reduction sh xs fs before (replicate (length before) 0) (refused 16)
unfolding unchanged?
unchanged?-sound sh xs fs before h none =
    let (checks, three) = both-parts (passes? (mend_checked sh (length xs) fs (length before))) _ h in
    let (one, h1) = both-parts (pass? reduction sh 1 xs xs) _ three in
    let (two, last) = both-parts (pass? reduction sh 2 xs xs) _ h1 in
    mend_uncorrected (passes?-sound _ checks) xs
    (record {
      after1 = xs;
      after2 = xs;
      pass1 = pass?-sound reduction sh 1 xs xs one;
      pass2 = pass?-sound reduction sh 2 xs xs two;
      pass3 = pass?-sound reduction sh 3 xs xs last;
    }) none refl

-- the cube that the first pass gives, and the other two keep
unfoldable pub mends? : Shape → (xs fs before after : List ℕ) → Value Unit → Bool
mends? sh xs fs before after (gives u) = mended? sh xs fs before after after after
mends? sh xs fs before after (refused n) = false
mends? sh xs fs before after (refused_at n i) = false

pub mends?-sound : (sh : Shape) (xs fs before after : List ℕ) (value : Value Unit) → mends? sh xs fs before after value ≡ true
    → MendOutcome reduction sh xs fs before after value
unfolding mends?
mends?-sound sh xs fs before after (gives u) h = mended?-sound sh xs fs before after after after h
mends?-sound sh xs fs before after (refused n) h = absurd (false≢true h)
mends?-sound sh xs fs before after (refused_at n i) h = absurd (false≢true h)

-- ---- a place past the end

unfoldable pub no-place? : (v0 v1 n j : ℕ) → Bool
no-place? v0 v1 n j =
    both (eqb v1 (mul reduction (pow reduction j) v0)) (both (ltb v0 256) (both (leb n j) (ltb j 255)))

-- j is the only exponent below 255
error-past-end : (v0 v1 n j : ℕ) → v1 ≡ mul reduction (pow reduction j) v0 → v0 < 256 → n ≤ j → j < 255
    → (i : ℕ) → ErrorAt reduction v0 v1 n i → ⊥
error-past-end v0 v1 n j e byte past fits i a =
    let same : i ≡ j =
    factor-unique reduction v0 i j primitive byte a.first_nonzero (omega (arith, a.below)) fits (sym a.factor ∙ e)
    in
    omega (arith, a.below)

-- a line whose sums have no place keeps its bytes
no-error-kept : (v0 v1 n : ℕ) → ((i : ℕ) → ErrorAt reduction v0 v1 n i → ⊥)
    → (c : ℕ → ℕ) → syndrome0 c n ≡ v0 → syndrome1 reduction c n ≡ v1 → (i : ℕ) → i < n → corrected reduction n c i ≡ c i
no-error-kept v0 v1 n h c p q = corrected-none reduction n c (λ j a. h j (rw (p, q) at a))

pub no-place?-sound : (v0 v1 n j : ℕ) → no-place? v0 v1 n j ≡ true
    → (v1 ≡ mul reduction (pow reduction j) v0)
    × ((i : ℕ) → ErrorAt reduction v0 v1 n i → ⊥)
    × ((c : ℕ → ℕ) → syndrome0 c n ≡ v0 → syndrome1 reduction c n ≡ v1 → (i : ℕ) → i < n → corrected reduction n c i ≡ c i)
unfolding no-place?
no-place?-sound v0 v1 n j h =
    let (f, h1) = both-parts (eqb v1 (mul reduction (pow reduction j) v0)) _ h in
    let (byte, h2) = both-parts (ltb v0 256) _ h1 in
    let (past, fits) = both-parts (leb n j) _ h2 in
    let factor : v1 ≡ mul reduction (pow reduction j) v0 = eqb-true _ _ f in
    let none : (i : ℕ) → ErrorAt reduction v0 v1 n i → ⊥ =
    error-past-end v0 v1 n j factor (ltb-true v0 256 byte) (leb-true n j past) (ltb-true j 255 fits)
    in
    (factor, none, no-error-kept v0 v1 n none)
