-- What follows from the contract of `fill` alone. Where the known cells are those of a code cube there is no contradiction, and the cube left is
-- that code cube with 00h on the cells left. 26 or fewer missing cells leave none.
use Rattle.std.specs.Prelude.{Result, Ok, Err}
use mathlib.Core.Path.{◌≡◌, refl, sym, ap, subst, ◌∙◌}
use mathlib.Core.Bool.{Bool, true, false, cond, true≢false}
use mathlib.Core.List.{List, [], ◌∷◌}
use mathlib.Core.Logic.{◌⊎◌, inl, inr, ⊎_elim}
use Prim.Native.Nat.{ℕ, zero, suc, ◌+◌, ◌*◌, ◌/◌, ◌≤◌, ◌<◌}
use native.Mathlib.Omega.{arith}
use lib.Arith.{digits_div, digits_lt}
use lib.ListN.{length, get_or}
use Rattle.answer.specs.declared.Refusal.{Refusal}
use Rattle.answer.specs.Values.{Value, gives, refused, passes, refusal}
use Rattle.answer.proofs.Values.{refusal-gives, refusal-injective}
use Rattle.field.specs.Field.{Primitive}
use Rattle.line.proofs.Codeword.{codeword-cong}
use Rattle.shape.specs.declared.Shape.{Shape}
use Rattle.shape.specs.Shapes.{Valid, cells, IsLine}
use Rattle.shape.specs.Flags.{missing}
use Rattle.shape.proofs.Valid.{volume-le}
use Rattle.shape.proofs.Geometry.{line-cell-lt}
use Rattle.data.specs.Data.{layer}
use Rattle.cube.specs.Cube.{layer_line, CodeCube}
use Rattle.stopping.specs.Stopping.{number, Largest}
use Rattle.stopping.proofs.Number.{not-true-false, number-le, number-zero}
use Rattle.stopping.proofs.Stopping.{on_line-zero, stopping-size}
use Rattle.stopping.proofs.Cube.{stopping-none-or-27}
use Rattle.fill.specs.Fill.{CellsLeft, left, fill_value, flags_checked, Filling, Cleared, Flagged, FillOutcome, fill_refused, fill_done, fill_contradiction}
use Rattle.fill.proofs.Checks.{done-sized}
use Rattle.fill.proofs.Unique.{layers-ext, filling-unique, done_refused}

-- ---- a cube with some cells cleared

-- the list of f 0 to f (n - 1), each at its place
listed : (ℕ → ℕ) → ℕ → List ℕ
listed f zero = []
listed f (suc n) = f 0 ∷ listed (λ i. f (suc i)) n

listed-length : (f : ℕ → ℕ) (n : ℕ) → length (listed f n) ≡ n
unfolding listed
listed-length f zero = refl
listed-length f (suc n) = ap suc (listed-length (λ i. f (suc i)) n)

listed_at : (f : ℕ → ℕ) (n i : ℕ) → i < n → get_or (listed f n) i 0 ≡ f i
unfolding listed
listed_at f zero i l = absurd (omega arith)
listed_at f (suc n) zero l = refl
listed_at f (suc n) (suc i) l = listed_at (λ i. f (suc i)) n i (omega arith)

listed-lt : (f : ℕ → ℕ) (n b : ℕ) → 0 < b → ((i : ℕ) → f i < b) → (i : ℕ) → get_or (listed f n) i 0 < b
unfolding listed
listed-lt f zero b s h i = s
listed-lt f (suc n) b s h zero = h 0
listed-lt f (suc n) b s h (suc i) = listed-lt (λ i. f (suc i)) n b s (λ i. h (suc i)) i

-- the cube xs with the cells of K 00h
without : Shape → (ℕ → Bool) → List ℕ → List ℕ
without sh K xs = listed (λ p. cond (K (p / sh.w)) 0 (get_or xs p 0)) (length xs)

module _ (sh : Shape) (K : ℕ → Bool) (xs : List ℕ) (size : length xs ≡ sh.w * cells sh) where
  without-layer : (n w : ℕ) → n < cells sh → w < sh.w → layer sh (without sh K xs) w n ≡ cond (K n) 0 (layer sh xs w n)
  unfolding without layer
  without-layer n w l b =
      listed_at _ (length xs) (n * sh.w + w) (omega (arith, digits_lt l b, size))
      ∙ ap (λ (q : ℕ). cond (K q) 0 (get_or xs (n * sh.w + w) 0)) (digits_div n b)

  without-cleared : Cleared sh xs K (without sh K xs)
  unfolding without
  without-cleared =
      record {
        size = listed-length _ (length xs);
        known = λ n w l b e. without-layer n w l b ∙ ap (λ (t : Bool). cond t 0 (layer sh xs w n)) e;
        missing = λ n w l b e. without-layer n w l b ∙ ap (λ (t : Bool). cond t 0 (layer sh xs w n)) e;
      }

  without-lt : ((p : ℕ) → get_or xs p 0 < 256) → (p : ℕ) → get_or (without sh K xs) p 0 < 256
  unfolding without
  without-lt h = listed-lt _ (length xs) 256 (omega arith) (λ p. pick (K (p / sh.w)) (get_or xs p 0) (h p))
    where
      pick : (t : Bool) (x : ℕ) → x < 256 → cond t 0 x < 256
      pick true x l = omega arith
      pick false x l = l

-- ---- the known cells are a code cube's

-- X with 00h on K is a filling
code-filling : (r : ℕ) (sh : Shape) (xs X : List ℕ) (M K : ℕ → Bool) → length xs ≡ sh.w * cells sh → CodeCube r sh X
    → ((n w : ℕ) → n < cells sh → w < sh.w → M n ≡ false → layer sh xs w n ≡ layer sh X w n)
    → ((n : ℕ) → n < cells sh → K n ≡ true → M n ≡ true) → Filling r sh xs M K (without sh K X)
unfolding layer_line
code-filling r sh xs X M K size code known inside =
    record {
      size = cleared.size ∙ code.size ∙ sym size;
      bytes = without-lt sh K X code.size code.bytes;
      known = λ n w l b e.
          cleared.known n w l b (not-true-false (K n) (λ k. true≢false (sym (inside n l k) ∙ e))) ∙ sym (known n w l b e);
      cleared = cleared.missing;
      lines = λ first stride len l z w b.
          codeword-cong r (layer_line sh X w first stride) (layer_line sh (without sh K X) w first stride) len
          (λ i m. sym (cleared.known (first + stride * i) w (line-cell-lt sh first stride len i l m) b (on_line-zero K first stride len z i m)))
          (code.lines first stride len l w b);
    }
  where
    cleared : Cleared sh X K (without sh K X)
    cleared = without-cleared sh K X code.size

-- the answer, cube and flags of a call on a code cube X with erasures: X with 00h on the cells left, which are the largest stopping set
pub record Recovered (sh : Shape) (fs X xs' fs' : List ℕ) (value : Value CellsLeft) : Type 0 where
  pub answer : value ≡ gives (left (number (missing fs') (cells sh)))
  pub flags : Flagged fs fs'
  pub largest : Largest (cells sh) (IsLine sh) (missing fs) (missing fs')
  pub cube : Cleared sh X (missing fs') xs'

pub code-recovered : {r : ℕ} {sh : Shape} {xs fs xs' fs' : List ℕ} {value : Value CellsLeft} → Primitive r → FillOutcome r sh xs fs xs' fs' value
    → flags_checked sh (length xs) fs ≡ passes tt → (X : List ℕ) → CodeCube r sh X
    → ((n w : ℕ) → n < cells sh → w < sh.w → missing fs n ≡ false → layer sh xs w n ≡ layer sh X w n) → Recovered sh fs X xs' fs' value
code-recovered prim (fill_refused n e x g) done X code known = absurd (done_refused done e)
code-recovered {r} {sh} {xs} {fs} {xs'} {fs'} prim (fill_done d g k u) done X code known =
    let z = done-sized sh xs fs d in
    let y = code-filling r sh xs X (missing fs) (missing fs') z.bytes code known k.stopping.inside in
    let same : without sh (missing fs') X ≡ xs' =
    filling-unique r prim sh z.valid xs (missing fs) (missing fs') k (without sh (missing fs') X) xs' y u z.bytes in
    record {
      answer = refl;
      flags = g;
      largest = k;
      cube = subst (Cleared sh X (missing fs')) same (without-cleared sh (missing fs') X code.size);
    }
code-recovered {r} {sh} {xs} {fs} prim (fill_contradiction d K l n c e) done X code known =
    absurd (n _ (code-filling r sh xs X (missing fs) K (done-sized sh xs fs d).bytes code known l.stopping.inside))

-- with nothing left the cube is X
pub recovered-whole : {sh : Shape} {fs X xs' fs' : List ℕ} {value : Value CellsLeft} → Recovered sh fs X xs' fs' value → Valid sh
    → length X ≡ sh.w * cells sh → number (missing fs') (cells sh) ≡ 0 → xs' ≡ X
recovered-whole {sh} {fs} {X} {xs'} {fs'} h v size none =
    layers-ext sh xs' X v (h.cube.size ∙ size) size (λ n w l b. h.cube.known n w l b (number-zero (missing fs') (cells sh) none n l))

-- ---- how many cells are left

module _ {r : ℕ} {sh : Shape} {xs fs xs' fs' : List ℕ} where
  -- no more cells are left than the largest cube has
  pub left_le : {n : ℕ} → FillOutcome r sh xs fs xs' fs' (gives (left n)) → n ≤ 16581375
  unfolding cells
  left_le (fill_done d g k u) =
      let ok : Valid sh = (done-sized sh xs fs d).valid in
      omega
      (arith, number-le (missing fs') (cells sh), volume-le sh.l1 sh.l2 sh.l3 ok.l1_high ok.l2_high ok.l3_high)

  -- 26 or fewer missing cells are all filled, or the known cells contradict each other
  pub few-filled : {value : Value CellsLeft} → FillOutcome r sh xs fs xs' fs' value
      → flags_checked sh (length xs) fs ≡ passes tt → number (missing fs) (cells sh) ≤ 26
      → (value ≡ gives (left 0)) ⊎ (value ≡ refused 13)
  few-filled (fill_refused n e x g) done few = absurd (done_refused done e)
  few-filled (fill_done d g k u) done few =
      inl
      (ap (λ (n : ℕ). gives (left n))
      (⊎_elim (λ z. z) (λ (t : 27 ≤ number (missing fs') (cells sh)). absurd (omega (arith, stopping-size k.stopping)))
      (stopping-none-or-27 k.stopping)))
  few-filled (fill_contradiction d K l n c e) done few = inr refl

-- ---- a value names one answer

pub fill-injective : (a b : Result ℕ Refusal) → fill_value a ≡ fill_value b → a ≡ b
unfolding fill_value
fill-injective (Ok m) (Ok n) e = cc
fill-injective (Ok m) (Err f) e = absurd (refusal-gives f (left m) (sym e))
fill-injective (Err f) (Ok n) e = absurd (refusal-gives f (left n) e)
fill-injective (Err f) (Err g) e = ap Err (refusal-injective f g e)

-- what a caller learns from an answer
pub left-outcome : {r : ℕ} {sh : Shape} {xs fs xs' fs' : List ℕ} (a : Result ℕ Refusal) (n : ℕ) → FillOutcome r sh xs fs xs' fs' (fill_value a) → a ≡ Ok n
    → FillOutcome r sh xs fs xs' fs' (gives (left n))
unfolding fill_value
left-outcome a n o e = rw e at o

pub refused-outcome : {r : ℕ} {sh : Shape} {xs fs xs' fs' : List ℕ} (a : Result ℕ Refusal) (f : Refusal) → FillOutcome r sh xs fs xs' fs' (fill_value a)
    → a ≡ Err f → FillOutcome r sh xs fs xs' fs' (refusal f)
unfolding fill_value
refused-outcome a f o e = rw e at o
