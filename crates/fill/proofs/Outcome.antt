-- What the steps of a call add up to. Peeling ends at the largest stopping set K. If every line without a cell of K is right, the cube is the
-- filling; if not, a filling would agree with the cube on each of these lines, and be right there.
use Rattle.std.specs.Prelude.{Result, Ok, Err, IsErrAnd}
use Rattle.std.proofs.lemmas.Result.{err_from_is_err_and}
use mathlib.Core.Path.{◌≡◌, refl, sym, ap, ◌∙◌}
use mathlib.Core.Bool.{true, false, true≢false}
use mathlib.Core.List.{List}
use mathlib.Core.Logic.{⊎_elim}
use Prim.Native.Nat.{ℕ, ◌+◌, ◌*◌, ◌≤◌, ◌<◌}
use native.Mathlib.Decide.{dec_lt}
use native.Mathlib.Omega.{arith}
use borrow.Author.Tests.{eqb-true, eq-eqb}
use lib.ListN.{length, get_or, get_or-eq_default}
use lib.Seq.{ext_get_or}
use Rattle.answer.specs.declared.Fault.TheVariants.{Contradiction}
use Rattle.answer.specs.declared.Refusal.{Refusal}
use Rattle.answer.specs.declared.Refusal.TheVariants.{Plain}
use Rattle.answer.specs.Refusals.{fault_number}
use Rattle.answer.specs.Values.{passes, checked, refusal, value_of}
use Rattle.answer.proofs.Values.{value-failed}
use Rattle.shape.specs.declared.Shape.{Shape}
use Rattle.shape.specs.Shapes.{cells, IsLine}
use Rattle.data.specs.Data.{layer}
use Rattle.cube.specs.Cube.{layer_line}
use Rattle.line.proofs.Codeword.{codeword-cong}
use Rattle.stopping.specs.Stopping.{number, Largest}
use Rattle.stopping.proofs.Number.{true-or-false}
use Rattle.stopping.proofs.Stopping.{on_line-cong, on_line-zero, largest-cong, peel-end}
use Rattle.stopping.proofs.Cube.{cube-fits}
use Rattle.shape.specs.Flags.{missing}
use Rattle.fill.specs.Fill.{CellsLeft, fill_value, flags_checked, Filling, Cleared, Flagged, FillOutcome, fill_refused, fill_done, fill_contradiction}
use Rattle.peel.specs.Peel.{Sized, Stops, Agrees, Peeled}
use Rattle.shape.specs.Inner.Marks.{is_marked, Remarked}
use Rattle.fill.specs.Inner.Verify.{Right, AllRight}
use Rattle.fill.proofs.Checks.{done-sized, done-flags}
use Rattle.shape.proofs.Missing.{valid-flag, missing-one, not-missing, missing-cong}
use Rattle.peel.proofs.Reaching.{reaches-missing}

-- ---- flags at the end of a call

-- a filled cell is not missing, and settling keeps it so
settled-missing : (gs hs : List ℕ) → Remarked 0 gs hs → (n : ℕ) → n < length gs → missing hs n ≡ missing gs n
unfolding is_marked
settled-missing gs hs r n l =
    ⊎_elim
    (λ (e : is_marked gs n ≡ true).
    not-missing hs n (λ f. let g : ◌≡◌ {A = ℕ} 0 1 = sym (r.marks n l e) ∙ f in omega arith)
    ∙ sym (not-missing gs n (λ f. let g : ◌≡◌ {A = ℕ} 3 1 = sym (eqb-true (get_or gs n 0) 3 e) ∙ f in omega arith)))
    (λ (e : is_marked gs n ≡ false). missing-cong gs hs n (r.others n e)) (true-or-false (is_marked gs n))

-- ---- refused by the checks

pub fill-unfit : (r : ℕ) (sh : Shape) (xs fs : List ℕ) (answer : Result Unit Refusal) (f : Refusal) (on : Result ℕ Refusal)
    → value_of answer ≡ checked (flags_checked sh (length xs) fs) → answer ≡ Err f → IsErrAnd on (λ g. g ≡ f)
    → FillOutcome r sh xs fs xs fs (fill_value on)
unfolding fill_value
fill-unfit r sh xs fs answer f on e p handed =
    let (n, failed, value) = value-failed {B = CellsLeft} answer _ f e p in
    let (g, is, same) = err_from_is_err_and on handed in
    rw (is, same, value) (fill_refused n failed refl refl)

module _ (r : ℕ) (sh : Shape) (xs fs zs ys gs : List ℕ) (done : flags_checked sh (length xs) fs ≡ passes tt)
    (c : Cleared sh xs (missing fs) zs) (p : Peeled r sh zs fs ys gs) where
  sized : Sized sh xs fs
  sized = done-sized sh xs fs done

  gs-size : length gs ≡ cells sh
  gs-size = p.reaches.flags ∙ sized.flags

  -- a flag is as at entry, 0, 1 or 2, or a filled cell's
  flag-low : (n : ℕ) → get_or fs n 0 ≤ 2
  flag-low = valid-flag fs (done-flags sh (length xs) fs done)

  filled-then : (n : ℕ) → is_marked gs n ≡ true → get_or fs n 0 ≡ 1
  unfolding is_marked
  filled-then n e =
      ⊎_elim
      (λ (k : get_or gs n 0 ≡ get_or fs n 0).
      absurd (let g : get_or gs n 0 ≡ 3 = eqb-true (get_or gs n 0) 3 e in omega (arith, flag-low n)))
      (λ (k : (get_or fs n 0 ≡ 1) × (get_or gs n 0 ≡ 3)). k.0) (p.reaches.marks n)

  kept_then : (n : ℕ) → is_marked gs n ≡ false → get_or gs n 0 ≡ get_or fs n 0
  unfolding is_marked
  kept_then n e =
      ⊎_elim (λ (k : get_or gs n 0 ≡ get_or fs n 0). k)
      (λ (k : (get_or fs n 0 ≡ 1) × (get_or gs n 0 ≡ 3)). absurd (true≢false (sym (eq-eqb (get_or gs n 0) 3 k.1) ∙ e))) (p.reaches.marks n)

  -- ---- the largest stopping set

  pub peeled-largest : Largest (cells sh) (IsLine sh) (missing fs) (missing gs)
  unfolding Stops
  peeled-largest = peel-end (λ n l e. reaches-missing p.reaches n e) p.reaches.inside p.stops

  -- ---- filled

  peeled-known : (n w : ℕ) → n < cells sh → w < sh.w → missing fs n ≡ false → layer sh ys w n ≡ layer sh xs w n
  peeled-known n w l m e = p.reaches.known n w l m e ∙ c.known n w l m e

  peeled-left : (n w : ℕ) → n < cells sh → w < sh.w → missing gs n ≡ true → layer sh ys w n ≡ 0
  peeled-left n w l m e = p.reaches.left n w l m e ∙ c.missing n w l m (reaches-missing p.reaches n e)

  pub right-filling : ((q : ℕ) → get_or ys q 0 < 256) → AllRight r sh ys gs → Filling r sh xs (missing fs) (missing gs) ys
  unfolding AllRight Right
  right-filling bytes h =
      record { size = p.reaches.size ∙ c.size; bytes = bytes; known = peeled-known; cleared = peeled-left; lines = h }

  module _ (hs : List ℕ) (m : Remarked 0 gs hs) where
    settled : (n : ℕ) → n < cells sh → missing gs n ≡ missing hs n
    settled n l = sym (settled-missing gs hs m n (omega (arith, gs-size)))

    settled-kept : (n : ℕ) → is_marked gs n ≡ false → get_or hs n 0 ≡ get_or fs n 0
    settled-kept n e = m.others n e ∙ kept_then n e

    settled-known : (n : ℕ) → missing fs n ≡ false → get_or hs n 0 ≡ get_or fs n 0
    settled-known n e =
        ⊎_elim (λ (k : is_marked gs n ≡ true). absurd (true≢false (sym (missing-one fs n (filled-then n k)) ∙ e))) (settled-kept n)
        (true-or-false (is_marked gs n))

    settled-filled : (n : ℕ) → missing fs n ≡ true → missing hs n ≡ false → get_or hs n 0 ≡ 0
    settled-filled n e f =
        elim (dec_lt n (length gs)) [
          | yes l ↦
              ⊎_elim (m.marks n l)
              (λ (k : is_marked gs n ≡ false). absurd (true≢false (sym (missing-cong fs hs n (settled-kept n k) ∙ e) ∙ f)))
              (true-or-false (is_marked gs n))
          | no b ↦ get_or-eq_default hs 0 {n = n} (omega (arith, m.size))
        ]

    settled-flags : Flagged fs hs
    settled-flags = record { size = m.size ∙ p.reaches.flags; known = settled-known; filled = settled-filled }

    settled-filling : Filling r sh xs (missing fs) (missing gs) ys → Filling r sh xs (missing fs) (missing hs) ys
    settled-filling f =
        record {
          size = f.size;
          bytes = f.bytes;
          known = f.known;
          cleared = λ n w l m e. f.cleared n w l m (settled n l ∙ e);
          lines = λ first stride len l e.
              f.lines first stride len l
              (on_line-cong (missing gs) (missing hs) first stride len (λ i m. settled (first + stride * i) (cube-fits sh first stride len l i m))
              ∙ e);
        }

    pub filled-outcome : ((q : ℕ) → get_or ys q 0 < 256) → AllRight r sh ys gs → (n : ℕ) → n ≡ number (missing hs) (length gs)
        → FillOutcome r sh xs fs ys hs (fill_value (Ok n))
    unfolding fill_value
    filled-outcome bytes h n e =
        rw (e ∙ ap (number (missing hs)) gs-size)
        (fill_done done settled-flags (largest-cong (cube-fits sh) settled peeled-largest) (settled-filling (right-filling bytes h)))

  -- ---- contradiction

  -- a filling for the largest stopping set agrees with the cube, so that it is right where the cube is
  filling-agrees : (v : List ℕ) → Filling r sh xs (missing fs) (missing gs) v → Agrees sh ys (missing gs) v
  unfolding Agrees
  filling-agrees v f =
      p.reaches.agrees (missing gs) peeled-largest.stopping v (record { bytes = f.bytes; lines = f.lines })
      (λ n w l m e. f.known n w l m e ∙ sym (c.known n w l m e))

  pub filling-right : (v : List ℕ) → Filling r sh xs (missing fs) (missing gs) v → AllRight r sh ys gs
  unfolding AllRight Right layer_line Agrees
  filling-right v f first stride len l e w m =
      codeword-cong r (layer_line sh v w first stride) (layer_line sh ys w first stride) len
      (λ i b.
      filling-agrees v f (first + stride * i) w (cube-fits sh first stride len l i b) m (on_line-zero (missing gs) first stride len e i b))
      (f.lines first stride len l e w m)

  -- the flags with the filled cells missing again are those at entry
  pub restored-flags : (hs : List ℕ) → Remarked 1 gs hs → hs ≡ fs
  restored-flags hs m =
      ext_get_or 0 hs fs (m.size ∙ p.reaches.flags)
      (λ n l.
      ⊎_elim (λ (e : is_marked gs n ≡ true). m.marks n (omega (arith, m.size)) e ∙ sym (filled-then n e))
      (λ (e : is_marked gs n ≡ false). m.others n e ∙ kept_then n e) (true-or-false (is_marked gs n)))

  module _ (ws : List ℕ) (d : Cleared sh ys (is_marked gs) ws) where
    restored-known : (n w : ℕ) → n < cells sh → w < sh.w → missing fs n ≡ false → layer sh ws w n ≡ layer sh xs w n
    restored-known n w l b e =
        ⊎_elim (λ (k : is_marked gs n ≡ true). absurd (true≢false (sym (missing-one fs n (filled-then n k)) ∙ e)))
        (λ (k : is_marked gs n ≡ false). d.known n w l b k ∙ peeled-known n w l b e) (true-or-false (is_marked gs n))

    restored-missing : (n w : ℕ) → n < cells sh → w < sh.w → missing fs n ≡ true → layer sh ws w n ≡ 0
    restored-missing n w l b e =
        ⊎_elim (λ (k : is_marked gs n ≡ true). d.missing n w l b k)
        (λ (k : is_marked gs n ≡ false). d.known n w l b k ∙ peeled-left n w l b (missing-cong fs gs n (kept_then n k) ∙ e))
        (true-or-false (is_marked gs n))

    pub contradiction-outcome : (AllRight r sh ys gs → ⊥) → (hs : List ℕ) → Remarked 1 gs hs → FillOutcome r sh xs fs ws hs (fill_value (Err (Plain Contradiction)))
    unfolding fill_value refusal fault_number
    contradiction-outcome wrong hs m =
        fill_contradiction done (missing gs) peeled-largest (λ v f. wrong (filling-right v f))
        (record { size = d.size ∙ p.reaches.size ∙ c.size; known = restored-known; missing = restored-missing }) (restored-flags hs m)
