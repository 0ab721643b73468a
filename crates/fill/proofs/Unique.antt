-- There is at most one filling, and the contract of `fill` determines answer, cube and flags, whatever the missing cells held before.
-- Two fillings for the largest stopping set K differ nowhere: in a layer, the cells of K and those where the two differ are a stopping set, since
-- two codewords differ at no place or at three; so they lie in K, where both are 00h.
use mathlib.Core.Path.{◌≡◌, refl, sym, ap, ◌∙◌}
use mathlib.Core.Bool.{Bool, true, false, not, true≢false}
use mathlib.Core.List.{List}
use mathlib.Core.Logic.{◌≢◌, ◌⊎◌, inl, inr, ⊎_elim}
use Prim.Native.Nat.{ℕ, ◌+◌, ◌*◌, ◌≤◌, ◌<◌}
use native.Mathlib.Nat.{le_trans}
use native.Mathlib.Omega.{arith}
use borrow.Author.Tests.{eqb-true, eq-eqb, not-false}
use lib.Dec.{eqb}
use lib.ListN.{length}
use Rattle.answer.specs.Values.{Value, gives, refused, Checked, passes, fails}
use Rattle.answer.proofs.Values.{fails-injective, passes-fails}
use Rattle.field.specs.Field.{Primitive}
use Rattle.line.proofs.Codeword.{codeword-unique}
use Rattle.shape.specs.declared.Shape.{Shape}
use Rattle.shape.specs.Shapes.{Valid, cells, IsLine}
use Rattle.shape.specs.Flags.{missing}
use Rattle.shape.proofs.Geometry.{cell-lt-cells, line-cell-lt, line-length-high}
use Rattle.data.specs.Data.{layer}
use Rattle.cube.specs.Cube.{layer_line}
use Rattle.data.proofs.Cells.{cells_ext}
use Rattle.stopping.specs.Stopping.{number, on_line, Stopping, Largest}
use Rattle.stopping.proofs.Number.{true-or-false, not-true-false, number-few}
use Rattle.stopping.proofs.Stopping.{union, union_left, union_right, union-cases, union-neither, on_line-mono, on_line-cong, on_line-none, on_line-zero, stops-or-peels, largest-unique}
use Rattle.fill.specs.Fill.{CellsLeft, left, flags_checked, Filling, Cleared, Flagged, FillOutcome, fill_refused, fill_done, fill_contradiction}
use Rattle.fill.specs.Theorems.{SameKnown}
use Rattle.peel.specs.Peel.{Sized}
use Rattle.fill.proofs.Checks.{done-sized}
use Rattle.fill.proofs.Flagged.{flagged-unique}

-- lists of W bytes a cell that agree in every layer of every cell are equal
pub layers-ext : (sh : Shape) (xs ys : List ℕ) → Valid sh → length xs ≡ sh.w * cells sh → length ys ≡ sh.w * cells sh
    → ((n w : ℕ) → n < cells sh → w < sh.w → layer sh xs w n ≡ layer sh ys w n) → xs ≡ ys
layers-ext sh xs ys v p q same =
    cells_ext sh xs ys (omega (arith, v.l1_low)) (omega (arith, v.l2_low)) v.w_low p q
    (λ a b c w la lb lc l. same _ w (cell-lt-cells sh a b c la lb lc) l)

-- ---- where two cubes differ in a layer

unfoldable differs : Shape → List ℕ → List ℕ → ℕ → ℕ → Bool
differs sh v u w n = not (eqb (layer sh v w n) (layer sh u w n))

differs-equal : (sh : Shape) (v u : List ℕ) (w n : ℕ) → layer sh v w n ≡ layer sh u w n → differs sh v u w n ≡ false
unfolding differs
differs-equal sh v u w n e = ap not (eq-eqb _ _ e)

differs-no : (sh : Shape) (v u : List ℕ) (w n : ℕ) → differs sh v u w n ≡ false → layer sh v w n ≡ layer sh u w n
unfolding differs
differs-no sh v u w n e = eqb-true _ _ (not-false _ e)

-- ---- two fillings

module _ (r : ℕ) (p : Primitive r) (sh : Shape) (valid : Valid sh) (xs : List ℕ) (M K : ℕ → Bool) (largest : Largest (cells sh) (IsLine sh) M K)
    (v u : List ℕ) (f : Filling r sh xs M K v) (g : Filling r sh xs M K u) where
  module _ (w : ℕ) (b : w < sh.w) where
    -- on a line without a cell of K, two codewords that differ at one or two places at most do not differ
    line_same : (first stride len : ℕ) → IsLine sh first stride len → on_line K first stride len ≡ 0 → (j k : ℕ)
        → ((i : ℕ) → i < len → i ≢ j → i ≢ k → union K (differs sh v u w) (first + stride * i) ≡ false)
        → (i : ℕ) → i < len → layer sh v w (first + stride * i) ≡ layer sh u w (first + stride * i)
    unfolding layer_line layer
    line_same first stride len l z j k others =
        codeword-unique r (layer_line sh v w first stride) (layer_line sh u w first stride) len j k p (line-length-high sh first stride len valid l)
        (λ i m. f.bytes _) (λ i m. g.bytes _) (f.lines first stride len l z w b) (g.lines first stride len l z w b)
        (λ i m nj nk.
        differs-no sh v u w (first + stride * i)
        (not-true-false _ (λ d. true≢false (sym (union_right K (differs sh v u w) (first + stride * i) d) ∙ others i m nj nk))))

    line-stops : (first stride len : ℕ) → IsLine sh first stride len → on_line K first stride len ≡ 0
        → (on_line (union K (differs sh v u w)) first stride len ≡ 0) ⊎ (3 ≤ on_line (union K (differs sh v u w)) first stride len)
    unfolding on_line
    line-stops first stride len l z =
        ⊎_elim (λ s. s)
        (λ (few : (1 ≤ on_line (union K (differs sh v u w)) first stride len) × (on_line (union K (differs sh v u w)) first stride len ≤ 2)).
        let (j, k, order, bound, ej, ek, others) = number-few (λ i. union K (differs sh v u w) (first + stride * i)) len few.0 few.1 in
        inl
        (on_line-none (union K (differs sh v u w)) first stride len
        (λ i m.
        union-neither K (differs sh v u w) (first + stride * i) (on_line-zero K first stride len z i m)
        (differs-equal sh v u w (first + stride * i) (line_same first stride len l z j k others i m)))))
        (stops-or-peels (on_line (union K (differs sh v u w)) first stride len))

    support-stopping : Stopping (cells sh) (IsLine sh) M (union K (differs sh v u w))
    support-stopping =
        record {
          inside = λ n l e.
              ⊎_elim (largest.stopping.inside n l)
              (λ (d : differs sh v u w n ≡ true).
              ⊎_elim (λ t. t)
              (λ (m : M n ≡ false).
              absurd (true≢false (sym d ∙ differs-equal sh v u w n (f.known n w l b m ∙ sym (g.known n w l b m)))))
              (true-or-false (M n)))
              (union-cases K (differs sh v u w) n e);
          meets = λ first stride len l.
              ⊎_elim (line-stops first stride len l)
              (λ t. inr (le_trans t (on_line-mono K (union K (differs sh v u w)) first stride len (λ i m. union_left K (differs sh v u w) (first + stride * i)))))
              (largest.stopping.meets first stride len l);
        }

    layer-same : (n : ℕ) → n < cells sh → layer sh v w n ≡ layer sh u w n
    layer-same n l =
        ⊎_elim
        (λ (d : differs sh v u w n ≡ true).
        let e : K n ≡ true = largest.every (union K (differs sh v u w)) support-stopping n l (union_right K (differs sh v u w) n d) in
        f.cleared n w l b e ∙ sym (g.cleared n w l b e))
        (differs-no sh v u w n) (true-or-false (differs sh v u w n))

  -- "There is at most one."
  pub filling-unique : length xs ≡ sh.w * cells sh → v ≡ u
  filling-unique s = layers-ext sh v u valid (f.size ∙ s) (g.size ∙ s) (λ n w l b. layer-same w b n l)

-- ---- the contract determines answer, cube and flags

-- a filling for K is one for the same set
pub filling-cong : {r : ℕ} {sh : Shape} {xs : List ℕ} {M K K' : ℕ → Bool} {v : List ℕ} → ((n : ℕ) → n < cells sh → K n ≡ K' n)
    → Filling r sh xs M K v → Filling r sh xs M K' v
filling-cong {r} {sh} {xs} {M} {K} {K'} {v} same f =
    record {
      size = f.size;
      bytes = f.bytes;
      known = f.known;
      cleared = λ n w l b e. f.cleared n w l b (same n l ∙ e);
      lines = λ first stride len l z.
          f.lines first stride len l
          (on_line-cong K K' first stride len (λ i m. same (first + stride * i) (line-cell-lt sh first stride len i l m)) ∙ z);
    }

cleared-unique : {sh : Shape} {xs fs : List ℕ} {M : ℕ → Bool} {v u : List ℕ} → Sized sh xs fs → Cleared sh xs M v → Cleared sh xs M u → v ≡ u
cleared-unique {sh} {xs} {fs} {M} {v} {u} z a b =
    layers-ext sh v u z.valid (a.size ∙ z.bytes) (b.size ∙ z.bytes)
    (λ n w l m.
    ⊎_elim (λ e. a.missing n w l m e ∙ sym (b.missing n w l m e)) (λ e. a.known n w l m e ∙ sym (b.known n w l m e)) (true-or-false (M n)))

-- answer, cube and flags of two calls
pub record Same (a b : Value CellsLeft) (xs ys fs gs : List ℕ) : Type 0 where
  pub answer : a ≡ b
  pub cube : xs ≡ ys
  pub flags : fs ≡ gs

pub done_refused : {c : Checked Unit} {n : ℕ} → c ≡ passes tt → c ≡ fails n → ⊥
done_refused {c} {n} p q = passes-fails tt n (sym p ∙ q)

module _ {r : ℕ} (p : Primitive r) where
  filled-same : (sh : Shape) (xs fs ys gs zs hs : List ℕ) → Sized sh xs fs → Flagged fs gs → Flagged fs hs
      → Largest (cells sh) (IsLine sh) (missing fs) (missing gs) → Largest (cells sh) (IsLine sh) (missing fs) (missing hs)
      → Filling r sh xs (missing fs) (missing gs) ys → Filling r sh xs (missing fs) (missing hs) zs
      → Same (gives (left (number (missing gs) (cells sh)))) (gives (left (number (missing hs) (cells sh)))) ys zs gs hs
  filled-same sh xs fs ys gs zs hs z g h k k' u u' =
      record {
        answer = ap (λ (q : List ℕ). gives (left (number (missing q) (cells sh)))) same;
        cube = filling-unique r p sh z.valid xs (missing fs) (missing hs) k' ys zs (filling-cong (largest-unique k k') u) u' z.bytes;
        flags = same;
      }
    where
      same : gs ≡ hs
      same = flagged-unique g h (λ n l. largest-unique k k' n (omega (arith, z.flags)))

  pub outcome-determined : {sh : Shape} {xs fs ys gs zs hs : List ℕ} {a b : Value CellsLeft}
      → FillOutcome r sh xs fs ys gs a → FillOutcome r sh xs fs zs hs b → Same a b ys zs gs hs
  outcome-determined (fill_refused n e x g) (fill_refused m f x' g') =
      record { answer = ap refused (fails-injective n m (sym e ∙ f)); cube = x ∙ sym x'; flags = g ∙ sym g' }
  outcome-determined (fill_refused n e x y) (fill_done d g k u) = absurd (done_refused d e)
  outcome-determined (fill_refused n e x g) (fill_contradiction d k l c z h) = absurd (done_refused d e)
  outcome-determined (fill_done d g k u) (fill_refused n e x y) = absurd (done_refused d e)
  outcome-determined {sh} {xs} {fs} {ys} {gs} {zs} {hs} (fill_done d g k u) (fill_done d' h k' u') =
      filled-same sh xs fs ys gs zs hs (done-sized sh xs fs d) g h k k' u u'
  outcome-determined (fill_done d g k u) (fill_contradiction d' k' l' n' c' e') = absurd (n' _ (filling-cong (largest-unique k l') u))
  outcome-determined (fill_contradiction d k l n c e) (fill_refused m f x g) = absurd (done_refused d f)
  outcome-determined (fill_contradiction d k l n c e) (fill_done d' h k' u') = absurd (n _ (filling-cong (largest-unique k' l) u'))
  outcome-determined {sh} {xs} {fs} (fill_contradiction d k l n c e) (fill_contradiction d' k' l' n' c' e') =
      record { answer = refl; cube = cleared-unique (done-sized sh xs fs d) c c'; flags = e ∙ sym e' }

-- ---- "Bytes of missing cells are not read."

filling-known : {r : ℕ} {sh : Shape} {xs ys : List ℕ} {M K : ℕ → Bool} {v : List ℕ} → SameKnown sh M xs ys → Filling r sh xs M K v
    → Filling r sh ys M K v
filling-known s f =
    record {
      size = f.size ∙ s.size;
      bytes = f.bytes;
      known = λ n w l b e. f.known n w l b e ∙ s.known n w l b e;
      cleared = f.cleared;
      lines = f.lines;
    }

-- what a call that passes the checks answers and leaves does not depend on the bytes of missing cells
pub outcome-known : {r : ℕ} {sh : Shape} {xs ys fs zs gs : List ℕ} {value : Value CellsLeft} → SameKnown sh (missing fs) xs ys
    → flags_checked sh (length xs) fs ≡ passes tt → FillOutcome r sh xs fs zs gs value → FillOutcome r sh ys fs zs gs value
outcome-known s done (fill_refused n e x g) = absurd (done_refused done e)
outcome-known s done (fill_done d g k u) = fill_done (rw (← s.size) d) g k (filling-known s u)
outcome-known {r} {sh} {xs} {ys} {fs} s done (fill_contradiction d K l n c e) =
    fill_contradiction (rw (← s.size) d) K l
    (λ v f. n v (filling-known (record { size = sym s.size; known = λ m w q b h. sym (s.known m w q b h) }) f))
    (record { size = c.size ∙ s.size; known = λ m w q b h. c.known m w q b h ∙ s.known m w q b h; missing = c.missing }) e
