-- Tests that compute: at every number below n, at every line of a cube; whether a cube is a code cube, whether it holds a data string, and the
-- outcome of encoding.
-- Each answers true only where that is so (`-sound`), and those that are read both ways answer true wherever it is so (`-true`).
use mathlib.Core.Path.{◌≡◌, refl, ap, ap₂, ◌∙◌}
use mathlib.Core.Bool.{Bool, true, false, cond, false≢true}
use mathlib.Core.List.{List, [], ◌∷◌}
use Prim.Native.Nat.{ℕ, zero, suc, ◌+◌, ◌-◌, ◌*◌, ◌<◌}
use native.Mathlib.Decide.{ℕ_discrete}
use native.Mathlib.Omega.{arith}
use lib.Dec.{eqb, ltb}
use lib.ListN.{length, get_or}
use borrow.Author.Tests.{eqb-true, eq-eqb, ltb-true}
use Rattle.shape.specs.declared.Shape.{Shape}
use Rattle.answer.specs.Values.{Value, gives, refused, refused_at, Checked, passes, fails}
use Rattle.field.specs.Field.{reduction}
use Rattle.field.proofs.Primitive.{primitive}
use Rattle.shape.specs.Shapes.{both, cells, capacity, cell, AxisLine, axis1, axis2, axis3, IsLine, along}
use Rattle.data.specs.Data.{layer, HoldsData}
use Rattle.cube.specs.Cube.{layer_line, CodeCube}
use Rattle.data.specs.Calls.{slices_checked}
use Rattle.cube.specs.Calls.{EncodeOutcome, encode_done}
use Rattle.cube.specs.Theorems.{OneCodeCube}
use Rattle.data.proofs.Checks.{checked-done}
use Rattle.cube.proofs.Existence.{one-code-cube}
use Rattle.shape.proofs.Valid.{both-parts, both_true}
use Rattle.line.specs.Line.{syndrome0, syndrome1, Codeword}

-- b where a
unfoldable pub implies : Bool → Bool → Bool
implies a b = cond a b true

pub implies-sound : (a b : Bool) → implies a b ≡ true → a ≡ true → b ≡ true
unfolding implies
implies-sound true b h e = h
implies-sound false b h e = absurd (false≢true e)

pub implies_true : (a b : Bool) → (a ≡ true → b ≡ true) → implies a b ≡ true
unfolding implies
implies_true true b h = h refl
implies_true false b h = refl

-- two lists are the same, by a test of their elements
unfoldable pub same : {A : Type 0} → (A → A → Bool) → List A → List A → Bool
same test [] [] = true
same test [] (y ∷ ys) = false
same test (x ∷ xs) [] = false
same test (x ∷ xs) (y ∷ ys) = both (test x y) (same test xs ys)

pub same-sound : {A : Type 0} (test : A → A → Bool) → ((x y : A) → test x y ≡ true → x ≡ y)
    → (xs ys : List A) → same test xs ys ≡ true → xs ≡ ys
unfolding same
same-sound test t [] [] h = refl
same-sound test t [] (y ∷ ys) h = absurd (false≢true h)
same-sound test t (x ∷ xs) [] h = absurd (false≢true h)
same-sound test t (x ∷ xs) (y ∷ ys) h =
    let (p, q) = both-parts (test x y) (same test xs ys) h in
    ap₂ ◌∷◌ (t x y p) (same-sound test t xs ys q)

-- the checks of a call have passed
unfoldable pub passes? : Checked Unit → Bool
passes? (passes u) = true
passes? (fails n) = false

pub passes?-sound : (c : Checked Unit) → passes? c ≡ true → c ≡ passes tt
unfolding passes?
passes?-sound (passes u) h = refl
passes?-sound (fails n) h = absurd (false≢true h)

-- ---- numbers below n

-- a test passes at every number below n
unfoldable pub all : ℕ → (ℕ → Bool) → Bool
all zero test = true
all (suc n) test = both (test n) (all n test)

pub all_sound : (n : ℕ) (test : ℕ → Bool) → all n test ≡ true → (i : ℕ) → i < n → test i ≡ true
unfolding all
all_sound zero test h i l = absurd (omega arith)
all_sound (suc n) test h i l =
    let (here, below) = both-parts (test n) (all n test) h in
    elim (ℕ_discrete i n) [ yes e ↦ ap test e ∙ here | no ne ↦ all_sound n test below i (omega arith) ]

pub all_true : (n : ℕ) (test : ℕ → Bool) → ((i : ℕ) → i < n → test i ≡ true) → all n test ≡ true
unfolding all
all_true zero test h = refl
all_true (suc n) test h = both_true (test n) (all n test) (h n (omega arith)) (all_true n test (λ i l. h i (omega arith)))

-- two numbers, the first below n and the second below m
unfoldable pub all₂ : ℕ → ℕ → (ℕ → ℕ → Bool) → Bool
all₂ n m test = all n (λ i. all m (test i))

pub all₂-sound : (n m : ℕ) (test : ℕ → ℕ → Bool) → all₂ n m test ≡ true → (i j : ℕ) → i < n → j < m → test i j ≡ true
unfolding all₂
all₂-sound n m test h i j l k = all_sound m (test i) (all_sound n (λ i'. all m (test i')) h i l) j k

pub all₂-true : (n m : ℕ) (test : ℕ → ℕ → Bool) → ((i j : ℕ) → i < n → j < m → test i j ≡ true) → all₂ n m test ≡ true
unfolding all₂
all₂-true n m test h = all_true n (λ i. all m (test i)) (λ i l. all_true m (test i) (λ j k. h i j l k))

-- ---- lines

-- a test passes at every line of an axis, given by first cell, stride and length
unfoldable pub axis_lines : Shape → ℕ → (ℕ → ℕ → ℕ → Bool) → Bool
axis_lines sh axis test =
    cond (eqb axis 1) (all₂ sh.l2 sh.l3 (λ b c. test (cell sh 0 b c) 1 sh.l1))
    (cond (eqb axis 2) (all₂ sh.l1 sh.l3 (λ a c. test (cell sh a 0 c) sh.l1 sh.l2))
    (all₂ sh.l1 sh.l2 (λ a b. test (cell sh a b 0) (sh.l1 * sh.l2) sh.l3)))

pub axis_lines-sound : (sh : Shape) (axis : ℕ) (test : ℕ → ℕ → ℕ → Bool) → axis_lines sh axis test ≡ true
    → (first stride len : ℕ) → AxisLine sh axis first stride len → test first stride len ≡ true
unfolding axis_lines
axis_lines-sound sh _ test h _ _ _ (axis1 b c m l) = all₂-sound _ _ _ h b c m l
axis_lines-sound sh _ test h _ _ _ (axis2 a c m l) = all₂-sound _ _ _ h a c m l
axis_lines-sound sh _ test h _ _ _ (axis3 a b m l) = all₂-sound _ _ _ h a b m l

-- and at every line of the cube
unfoldable pub all_lines : Shape → (ℕ → ℕ → ℕ → Bool) → Bool
all_lines sh test = both (axis_lines sh 1 test) (both (axis_lines sh 2 test) (axis_lines sh 3 test))

pub all_lines-sound : (sh : Shape) (test : ℕ → ℕ → ℕ → Bool) → all_lines sh test ≡ true
    → (first stride len : ℕ) → IsLine sh first stride len → test first stride len ≡ true
unfolding all_lines
all_lines-sound sh test h f s n l =
    let (p, rest) = both-parts _ _ h in
    let (q, t) = both-parts _ _ rest in
    by p q t f s n l
  where
    by : axis_lines sh 1 test ≡ true → axis_lines sh 2 test ≡ true → axis_lines sh 3 test ≡ true
        → (first stride len : ℕ) → IsLine sh first stride len → test first stride len ≡ true
    by p q t _ _ _ (along (axis1 b c m l)) = axis_lines-sound sh 1 test p _ _ _ (axis1 b c m l)
    by p q t _ _ _ (along (axis2 a c m l)) = axis_lines-sound sh 2 test q _ _ _ (axis2 a c m l)
    by p q t _ _ _ (along (axis3 a b m l)) = axis_lines-sound sh 3 test t _ _ _ (axis3 a b m l)

pub all_lines-true : (sh : Shape) (test : ℕ → ℕ → ℕ → Bool) → ((first stride len : ℕ) → IsLine sh first stride len → test first stride len ≡ true)
    → all_lines sh test ≡ true
unfolding all_lines axis_lines
all_lines-true sh test h =
    both_true _ _ (all₂-true _ _ _ (λ b c m l. h _ _ _ (along (axis1 b c m l))))
    (both_true _ _ (all₂-true _ _ _ (λ a c m l. h _ _ _ (along (axis2 a c m l))))
    (all₂-true _ _ _ (λ a b m l. h _ _ _ (along (axis3 a b m l)))))

-- ---- bytes

unfoldable pub bytes? : List ℕ → Bool
bytes? [] = true
bytes? (b ∷ bs) = both (ltb b 256) (bytes? bs)

pub bytes?-sound : (v : List ℕ) → bytes? v ≡ true → (p : ℕ) → get_or v p 0 < 256
unfolding bytes?
bytes?-sound [] h p = omega arith
bytes?-sound (b ∷ bs) h zero = ltb-true b 256 (both-parts (ltb b 256) (bytes? bs) h).0
bytes?-sound (b ∷ bs) h (suc p) = bytes?-sound bs (both-parts (ltb b 256) (bytes? bs) h).1 p

-- ---- code cubes

unfoldable pub codeword? : ℕ → (ℕ → ℕ) → ℕ → Bool
codeword? r c n = both (eqb (syndrome0 c n) 0) (eqb (syndrome1 r c n) 0)

pub codeword?-sound : (r : ℕ) (c : ℕ → ℕ) (n : ℕ) → codeword? r c n ≡ true → Codeword r c n
unfolding codeword?
codeword?-sound r c n h =
    let (p, q) = both-parts (eqb (syndrome0 c n) 0) (eqb (syndrome1 r c n) 0) h in
    record { first = eqb-true _ _ p; second = eqb-true _ _ q }

codeword?-true : (r : ℕ) (c : ℕ → ℕ) (n : ℕ) → Codeword r c n → codeword? r c n ≡ true
unfolding codeword?
codeword?-true r c n w = both_true _ _ (eq-eqb _ _ w.first) (eq-eqb _ _ w.second)

-- a line in every layer
unfoldable pub line? : ℕ → Shape → List ℕ → ℕ → ℕ → ℕ → Bool
line? r sh xs first stride len = all sh.w (λ w. codeword? r (layer_line sh xs w first stride) len)

pub line?-sound : (r : ℕ) (sh : Shape) (xs : List ℕ) (first stride len : ℕ) → line? r sh xs first stride len ≡ true
    → (w : ℕ) → w < sh.w → Codeword r (layer_line sh xs w first stride) len
unfolding line?
line?-sound r sh xs f s n h w l = codeword?-sound r _ n (all_sound sh.w _ h w l)

pub line?-true : (r : ℕ) (sh : Shape) (xs : List ℕ) (first stride len : ℕ)
    → ((w : ℕ) → w < sh.w → Codeword r (layer_line sh xs w first stride) len) → line? r sh xs first stride len ≡ true
unfolding line?
line?-true r sh xs f s n h = all_true sh.w _ (λ w l. codeword?-true r _ n (h w l))

unfoldable pub code_cube? : ℕ → Shape → List ℕ → Bool
code_cube? r sh xs = both (eqb (length xs) (sh.w * cells sh)) (both (bytes? xs) (all_lines sh (line? r sh xs)))

pub code_cube?-sound : (r : ℕ) (sh : Shape) (xs : List ℕ) → code_cube? r sh xs ≡ true → CodeCube r sh xs
unfolding code_cube?
code_cube?-sound r sh xs h =
    let (size, h1) = both-parts (eqb (length xs) (sh.w * cells sh)) _ h in
    let (bytes, lines) = both-parts (bytes? xs) _ h1 in
    record {
      size = eqb-true _ _ size;
      bytes = bytes?-sound xs bytes;
      lines = λ f s n l. line?-sound r sh xs f s n (all_lines-sound sh (line? r sh xs) lines f s n l);
    }

-- ---- data strings

unfoldable pub holds_data? : Shape → List ℕ → List ℕ → Bool
holds_data? sh xs ds =
    both (eqb (length ds) (capacity sh))
    (all₂ (sh.l1 - 2) (sh.l2 - 2) (λ a b.
    all₂ (sh.l3 - 2) sh.w (λ c w.
    eqb (get_or ds ((a + (sh.l1 - 2) * (b + (sh.l2 - 2) * c)) * sh.w + w) 0) (layer sh xs w (cell sh a b c)))))

pub holds_data?-sound : (sh : Shape) (xs ds : List ℕ) → holds_data? sh xs ds ≡ true → HoldsData sh xs ds
unfolding holds_data?
holds_data?-sound sh xs ds h =
    let (size, bytes) = both-parts (eqb (length ds) (capacity sh)) _ h in
    record {
      size = eqb-true _ _ size;
      bytes = λ a b c w la lb lc lw. eqb-true _ _ (all₂-sound (sh.l3 - 2) sh.w _ (all₂-sound (sh.l1 - 2) (sh.l2 - 2) _ bytes a b la lb) c w lc lw);
    }

-- ---- what `encode` answers and leaves

unfoldable pub encodes? : Shape → (ds before after : List ℕ) → Value Unit → Bool
encodes? sh ds before after (gives u) =
    both (passes? (slices_checked sh (length ds) (length before)))
    (both (bytes? ds) (both (code_cube? reduction sh after) (holds_data? sh after ds)))
encodes? sh ds before after (refused n) = false
encodes? sh ds before after (refused_at n i) = false

pub encodes?-sound : (sh : Shape) (ds before after : List ℕ) (value : Value Unit) → encodes? sh ds before after value ≡ true
    → EncodeOutcome reduction sh ds before after value
unfolding encodes? OneCodeCube
encodes?-sound sh ds before after (gives u) h =
    let (checks, h1) = both-parts (passes? (slices_checked sh (length ds) (length before))) _ h in
    let (bytes, h2) = both-parts (bytes? ds) _ h1 in
    let (code, holds) = both-parts (code_cube? reduction sh after) _ h2 in
    let passed = passes?-sound _ checks in
    let (valid, size, _) = checked-done sh (length ds) (length before) passed in
    encode_done passed
    ((one-code-cube reduction primitive sh valid ds size (bytes?-sound ds bytes)).only after (code_cube?-sound reduction sh after code)
    (holds_data?-sound sh after ds holds))
encodes?-sound sh ds before after (refused n) h = absurd (false≢true h)
encodes?-sound sh ds before after (refused_at n i) h = absurd (false≢true h)
