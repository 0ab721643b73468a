-- Filling, computed: the largest stopping set of a cube's flags by peeling, and tests of the outcomes of `fill`. A cube has no filling where some
-- line of known cells is not right: a filling would be the same there, and right.
use mathlib.Core.Path.{◌≡◌, refl, sym, ap, subst, ◌∙◌}
use mathlib.Core.Bool.{Bool, true, false, cond, not, false≢true, beq}
use mathlib.Core.List.{List}
use Prim.Native.Nat.{ℕ, ◌+◌, ◌*◌, ◌<◌}
use native.Mathlib.Decide.{dec_lt}
use native.Mathlib.Omega.{arith}
use lib.Dec.{eqb, leb}
use lib.ListN.{length, get_or, get_or-eq_default}
use borrow.Author.Tests.{eqb-true, eqb-false, eq-eqb, leb-true, not-true}
use Rattle.answer.specs.Values.{Value, gives, refused, refused_at}
use Rattle.field.specs.Field.{reduction}
use Rattle.line.specs.Line.{Codeword}
use Rattle.line.proofs.Codeword.{codeword-cong}
use Rattle.stopping.specs.Stopping.{number, on_line, Largest}
use Rattle.stopping.proofs.Number.{number-cong}
use Rattle.stopping.proofs.Stopping.{largest-unique, largest-cong, on_line-mono, on_line-zero}
use Rattle.stopping.proofs.Cube.{cube-fits}
use Rattle.stopping.proofs.Peeling.{has, listed, has_listed}
use Rattle.stopping.proofs.CubeLines.{cube_largest, cube-largest}
use Rattle.shape.specs.declared.Shape.{Shape}
use Rattle.shape.specs.Shapes.{both, cells, IsLine}
use Rattle.shape.specs.Flags.{missing}
use Rattle.shape.proofs.Valid.{both-parts}
use Rattle.shape.proofs.Geometry.{line-cell-lt}
use Rattle.data.specs.Data.{layer}
use Rattle.cube.specs.Cube.{layer_line}
use Rattle.fill.specs.Fill.{CellsLeft, left, flags_checked, Filling, Flagged, FillOutcome, fill_done, fill_contradiction}
use Rattle.examples.proofs.Tests.{implies, implies-sound, implies_true, same, same-sound, passes?, passes?-sound, all, all_sound, all₂, all₂-sound, all_lines, all_lines-sound, all_lines-true, bytes?, bytes?-sound, line?, line?-sound, line?-true}

-- ---- the largest stopping set

-- K is the largest stopping set among the missing cells M
unfoldable pub largest? : Shape → (M K : ℕ → Bool) → Bool
largest? sh M K = same beq (cube_largest sh M) (listed (cells sh) K)

beq-sound : (a b : Bool) → beq a b ≡ true → a ≡ b
beq-sound true true h = refl
beq-sound true false h = absurd (false≢true h)
beq-sound false true h = absurd (false≢true h)
beq-sound false false h = refl

largest?-sound : (sh : Shape) (M K : ℕ → Bool) → largest? sh M K ≡ true → Largest (cells sh) (IsLine sh) M K
unfolding largest?
largest?-sound sh M K h =
    largest-cong (cube-fits sh)
    (λ n l. ap (λ (R : List Bool). has R n) (same-sound beq beq-sound _ _ h) ∙ has_listed (cells sh) K n l) (cube-largest sh M)

-- so many cells are left
unfoldable pub leaves? : Shape → List ℕ → ℕ → Bool
leaves? sh fs size = eqb (number (has (cube_largest sh (missing fs))) (cells sh)) size

pub leaves?-sound : (sh : Shape) (fs : List ℕ) (size : ℕ) → leaves? sh fs size ≡ true
    → (K : ℕ → Bool) → Largest (cells sh) (IsLine sh) (missing fs) K → number K (cells sh) ≡ size
unfolding leaves?
leaves?-sound sh fs size h K u = number-cong _ _ (cells sh) (largest-unique u (cube-largest sh (missing fs))) ∙ eqb-true _ _ h

-- ---- fillings

-- v has the bytes of xs in the cells where M does not hold
unfoldable pub kept? : Shape → List ℕ → (ℕ → Bool) → List ℕ → Bool
kept? sh xs M v = all₂ (cells sh) sh.w (λ n w. implies (not (M n)) (eqb (layer sh v w n) (layer sh xs w n)))

kept?-sound : (sh : Shape) (xs : List ℕ) (M : ℕ → Bool) (v : List ℕ) → kept? sh xs M v ≡ true
    → (n w : ℕ) → n < cells sh → w < sh.w → M n ≡ false → layer sh v w n ≡ layer sh xs w n
unfolding kept?
kept?-sound sh xs M v h n w l m e = eqb-true _ _ (implies-sound _ _ (all₂-sound (cells sh) sh.w _ h n w l m) (ap not e))

-- v is 00h in the cells where K holds
unfoldable pub zero? : Shape → (ℕ → Bool) → List ℕ → Bool
zero? sh K v = all₂ (cells sh) sh.w (λ n w. implies (K n) (eqb (layer sh v w n) 0))

zero?-sound : (sh : Shape) (K : ℕ → Bool) (v : List ℕ) → zero? sh K v ≡ true
    → (n w : ℕ) → n < cells sh → w < sh.w → K n ≡ true → layer sh v w n ≡ 0
unfolding zero?
zero?-sound sh K v h n w l m e = eqb-true _ _ (implies-sound _ _ (all₂-sound (cells sh) sh.w _ h n w l m) e)

-- every line without a cell of S is right
unfoldable pub right_off? : ℕ → Shape → (ℕ → Bool) → List ℕ → Bool
right_off? r sh S v = all_lines sh (λ first stride len. implies (eqb (on_line S first stride len) 0) (line? r sh v first stride len))

right_off?-sound : (r : ℕ) (sh : Shape) (S : ℕ → Bool) (v : List ℕ) → right_off? r sh S v ≡ true
    → (first stride len : ℕ) → IsLine sh first stride len → on_line S first stride len ≡ 0
    → (w : ℕ) → w < sh.w → Codeword r (layer_line sh v w first stride) len
unfolding right_off?
right_off?-sound r sh S v h f s n l z = line?-sound r sh v f s n (implies-sound _ _ (all_lines-sound sh _ h f s n l) (eq-eqb _ _ z))

right_off?-true : (r : ℕ) (sh : Shape) (S : ℕ → Bool) (v : List ℕ)
    → ((first stride len : ℕ) → IsLine sh first stride len → on_line S first stride len ≡ 0
    → (w : ℕ) → w < sh.w → Codeword r (layer_line sh v w first stride) len)
    → right_off? r sh S v ≡ true
unfolding right_off?
right_off?-true r sh S v h =
    all_lines-true sh _ (λ f s n l. implies_true _ _ (λ z. line?-true r sh v f s n (h f s n l (eqb-true _ _ z))))

unfoldable pub filling? : ℕ → Shape → List ℕ → (M K : ℕ → Bool) → List ℕ → Bool
filling? r sh xs M K v =
    both (eqb (length v) (length xs)) (both (bytes? v) (both (kept? sh xs M v) (both (zero? sh K v) (right_off? r sh K v))))

filling?-sound : (r : ℕ) (sh : Shape) (xs : List ℕ) (M K : ℕ → Bool) (v : List ℕ) → filling? r sh xs M K v ≡ true → Filling r sh xs M K v
unfolding filling?
filling?-sound r sh xs M K v h =
    let (size, h1) = both-parts (eqb (length v) (length xs)) _ h in
    let (bytes, h2) = both-parts (bytes? v) _ h1 in
    let (kept, h3) = both-parts (kept? sh xs M v) _ h2 in
    let (zeros, lines) = both-parts (zero? sh K v) _ h3 in
    record {
      size = eqb-true _ _ size;
      bytes = bytes?-sound v bytes;
      known = kept?-sound sh xs M v kept;
      cleared = zero?-sound sh K v zeros;
      lines = right_off?-sound r sh K v lines;
    }

-- a filling has the cube's bytes on a line of known cells
line-agrees : {r : ℕ} {sh : Shape} {xs : List ℕ} {M K : ℕ → Bool} {v : List ℕ} → Filling r sh xs M K v
    → (first stride len : ℕ) → IsLine sh first stride len → on_line M first stride len ≡ 0
    → (w : ℕ) → w < sh.w → (i : ℕ) → i < len → layer_line sh v w first stride i ≡ layer_line sh xs w first stride i
unfolding layer_line
line-agrees {sh = sh} {M = M} filling f s n l z w m i q =
    filling.known (f + s * i) w (line-cell-lt sh f s n i l q) m (on_line-zero M f s n z i q)

-- a filling is right on every line of known cells, and so is the cube
known-right : (r : ℕ) (sh : Shape) (xs : List ℕ) (M K : ℕ → Bool) (v : List ℕ) → Largest (cells sh) (IsLine sh) M K → Filling r sh xs M K v
    → right_off? r sh M xs ≡ true
known-right r sh xs M K v u filling = right_off?-true r sh M xs lines
  where
    lines : (f s n : ℕ) → IsLine sh f s n → on_line M f s n ≡ 0 → (w : ℕ) → w < sh.w → Codeword r (layer_line sh xs w f s) n
    lines f s n l z w m =
        let none : on_line K f s n ≡ 0 =
        omega (arith, on_line-mono K M f s n (λ i q. u.stopping.inside (f + s * i) (line-cell-lt sh f s n i l q)))
        in
        codeword-cong r (layer_line sh v w f s) (layer_line sh xs w f s) n (line-agrees filling f s n l z w m) (filling.lines f s n l none w m)

-- ---- flags

-- a flag that was f may be g after a filling
unfoldable pub flag? : (f g : ℕ) → Bool
flag? f g = cond (eqb f 1) (leb g 1) (eqb g f)

unfoldable pub flagged? : (fs fs' : List ℕ) → Bool
flagged? fs fs' = both (eqb (length fs') (length fs)) (all (length fs) (λ n. flag? (get_or fs n 0) (get_or fs' n 0)))

flag?-known : (f g : ℕ) → eqb f 1 ≡ false → flag? f g ≡ true → g ≡ f
unfolding flag?
flag?-known f g e h = eqb-true g f (rw e at h)

flag?-filled : (f g : ℕ) → eqb f 1 ≡ true → eqb g 1 ≡ false → flag? f g ≡ true → g ≡ 0
unfolding flag?
flag?-filled f g e m h = let ne = eqb-false g 1 m in omega (arith, leb-true g 1 (rw e at h))

flagged?-at : (fs fs' : List ℕ) → flagged? fs fs' ≡ true → (n : ℕ) → flag? (get_or fs n 0) (get_or fs' n 0) ≡ true
unfolding flagged? flag?
flagged?-at fs fs' h n =
    let (size, flags) = both-parts (eqb (length fs') (length fs)) _ h in
    elim (dec_lt n (length fs)) [
      | yes l ↦ all_sound (length fs) _ flags n l
      | no b ↦
          rw (
            get_or-eq_default fs 0 {n = n} (omega arith),
            get_or-eq_default fs' 0 {n = n} (omega (arith, eqb-true (length fs') (length fs) size)),
          )
    ]

flagged?-sound : (fs fs' : List ℕ) → flagged? fs fs' ≡ true → Flagged fs fs'
unfolding flagged? missing
flagged?-sound fs fs' h =
    record {
      size = eqb-true _ _ (both-parts (eqb (length fs') (length fs)) _ h).0;
      known = λ n e. flag?-known (get_or fs n 0) (get_or fs' n 0) e (flagged?-at fs fs' h n);
      filled = λ n e m. flag?-filled (get_or fs n 0) (get_or fs' n 0) e m (flagged?-at fs fs' h n);
    }

-- ---- what `fill` answers and leaves

unfoldable pub filled? : Shape → (xs fs xs' fs' : List ℕ) → ℕ → Bool
filled? sh xs fs xs' fs' count =
    both (passes? (flags_checked sh (length xs) fs))
    (both (flagged? fs fs')
    (both (largest? sh (missing fs) (missing fs'))
    (both (filling? reduction sh xs (missing fs) (missing fs') xs') (eqb (number (missing fs') (cells sh)) count))))

filled?-sound : (sh : Shape) (xs fs xs' fs' : List ℕ) (count : ℕ) → filled? sh xs fs xs' fs' count ≡ true
    → FillOutcome reduction sh xs fs xs' fs' (gives (left count))
unfolding filled?
filled?-sound sh xs fs xs' fs' count h =
    let (checks, h1) = both-parts (passes? (flags_checked sh (length xs) fs)) _ h in
    let (flags, h2) = both-parts (flagged? fs fs') _ h1 in
    let (stuck, h3) = both-parts (largest? sh (missing fs) (missing fs')) _ h2 in
    let (filling, counted) = both-parts (filling? reduction sh xs (missing fs) (missing fs') xs') _ h3 in
    subst (λ (n : ℕ). FillOutcome reduction sh xs fs xs' fs' (gives (left n))) (eqb-true _ _ counted)
    (fill_done (passes?-sound _ checks) (flagged?-sound fs fs' flags) (largest?-sound sh _ _ stuck) (filling?-sound reduction sh xs _ _ xs' filling))

unfoldable pub contradicts? : Shape → (xs fs xs' fs' : List ℕ) → Bool
contradicts? sh xs fs xs' fs' =
    both (passes? (flags_checked sh (length xs) fs))
    (both (not (right_off? reduction sh (missing fs) xs))
    (both (eqb (length xs') (length xs))
    (both (kept? sh xs (missing fs) xs') (both (zero? sh (missing fs) xs') (same eqb fs' fs)))))

contradicts?-sound : (sh : Shape) (xs fs xs' fs' : List ℕ) → contradicts? sh xs fs xs' fs' ≡ true
    → FillOutcome reduction sh xs fs xs' fs' (refused 13)
unfolding contradicts?
contradicts?-sound sh xs fs xs' fs' h =
    let M : ℕ → Bool = missing fs in
    let (checks, h1) = both-parts (passes? (flags_checked sh (length xs) fs)) _ h in
    let (bad, h2) = both-parts (not (right_off? reduction sh M xs)) _ h1 in
    let (size, h3) = both-parts (eqb (length xs') (length xs)) _ h2 in
    let (kept, h4) = both-parts (kept? sh xs M xs') _ h3 in
    let (zeros, flags) = both-parts (zero? sh M xs') _ h4 in
    fill_contradiction (passes?-sound _ checks) (has (cube_largest sh M)) (cube-largest sh M)
    (λ v filling. false≢true (sym (not-true _ bad) ∙ known-right reduction sh xs M _ v (cube-largest sh M) filling))
    (record { size = eqb-true _ _ size; known = kept?-sound sh xs M xs' kept; missing = zero?-sound sh M xs' zeros })
    (same-sound eqb eqb-true fs' fs flags)

unfoldable pub fills? : Shape → (xs fs xs' fs' : List ℕ) → Value CellsLeft → Bool
fills? sh xs fs xs' fs' (gives (left n)) = filled? sh xs fs xs' fs' n
fills? sh xs fs xs' fs' (refused n) = both (eqb n 13) (contradicts? sh xs fs xs' fs')
fills? sh xs fs xs' fs' (refused_at n i) = false

pub fills?-sound : (sh : Shape) (xs fs xs' fs' : List ℕ) (value : Value CellsLeft) → fills? sh xs fs xs' fs' value ≡ true
    → FillOutcome reduction sh xs fs xs' fs' value
unfolding fills?
fills?-sound sh xs fs xs' fs' (gives (left n)) h = filled?-sound sh xs fs xs' fs' n h
fills?-sound sh xs fs xs' fs' (refused n) h =
    let (number, bad) = both-parts (eqb n 13) _ h in
    rw (eqb-true n 13 number) (contradicts?-sound sh xs fs xs' fs' bad)
fills?-sound sh xs fs xs' fs' (refused_at n i) h = absurd (false≢true h)
