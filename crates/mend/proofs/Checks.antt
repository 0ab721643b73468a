-- The checks of a call: what it has that passes them, and their numbers.
use mathlib.Core.Path.{◌≡◌, ap, ◌∙◌}
use mathlib.Core.List.{List}
use mathlib.Core.Logic.{◌⊎◌, inl, inr}
use Prim.Native.Nat.{ℕ, ◌*◌, ◌≤◌}
use native.Mathlib.Omega.{arith}
use lib.Dec.{eqb}
use lib.ListN.{length}
use borrow.Author.Tests.{eqb-true}
use Rattle.answer.specs.Values.{passes, fails}
use Rattle.answer.proofs.Values.{check-passed, then-passed, check-number, then-number, passes-number}
use Rattle.shape.specs.declared.Shape.{Shape}
use Rattle.shape.specs.declared.Sizes.{Sizes}
use Rattle.shape.specs.Shapes.{Valid, IsAxis, both, within, cells, sizes, shape_checked}
use Rattle.shape.proofs.Valid.{both-parts, within-parts, shape-passed, shape-number}
use Rattle.data.specs.Calls.{cube_checked}
use Rattle.data.proofs.Checks.{cube-checked-done}
use Rattle.mend.specs.Mend.{axis_checked, whole_checked, mend_checked}

-- one pass: the shape is valid, the axis is one of three, and the length is the cube's
pub record AxisReady (sh : Shape) (axis n : ℕ) : Type 0 where
  pub valid : Valid sh
  pub on : IsAxis axis
  pub size : n ≡ sh.w * cells sh

pub axis-mend-ready : (sh : Shape) (axis n : ℕ) → axis_checked sh axis n ≡ passes tt → AxisReady sh axis n
unfolding axis_checked
axis-mend-ready sh axis n e =
    let (on, rest) = check-passed (within 1 3 axis) 1 _ tt e in
    let (v, size) = cube-checked-done sh n rest in
    record { valid = v; on = within-parts 1 3 axis on; size = size }

-- the whole call: the shape is valid, and both lengths are the cube's
pub record MendReady (sh : Shape) (n k : ℕ) : Type 0 where
  pub valid : Valid sh
  pub size : n ≡ sh.w * cells sh
  pub room : k ≡ sh.w * cells sh

pub mend-ready : (sh : Shape) (n : ℕ) (fs : List ℕ) (k : ℕ) → mend_checked sh n fs k ≡ passes tt → MendReady sh n k
unfolding mend_checked sizes
mend-ready sh n fs k e =
    let (z, fits, rest) = then-passed (shape_checked sh) _ tt e in
    let (v, same) = shape-passed sh z fits in
    let bytes = ap (λ (y : Sizes). y.bytes) same in
    let (lengths, _) = check-passed (both (eqb n z.bytes) (both (eqb (length fs) z.cells) (eqb k z.bytes))) 4 _ tt rest in
    let (a, bc) = both-parts (eqb n z.bytes) _ lengths in
    let (b, c) = both-parts (eqb (length fs) z.cells) (eqb k z.bytes) bc in
    record { valid = v; size = eqb-true n z.bytes a ∙ bytes; room = eqb-true k z.bytes c ∙ bytes }

-- ---- the numbers of the checks

pub axis-number : (sh : Shape) (axis k n : ℕ) → axis_checked sh axis k ≡ fails n → (1 ≤ n) × (n ≤ 4)
unfolding axis_checked cube_checked
axis-number sh axis k n =
    check-number Low n (within 1 3 axis) 1 _ (omega arith)
    (then-number Low n (shape_checked sh) _ (λ e. let (low, high) = shape-number sh n e in (low, omega arith))
    (λ z. check-number Low n _ 4 _ (omega arith) (passes-number Low n tt)))
  where
    Low : ℕ → Type 0
    Low m = (1 ≤ m) × (m ≤ 4)

pub mend-number : (sh : Shape) (k : ℕ) (fs : List ℕ) (j n : ℕ) → mend_checked sh k fs j ≡ fails n → ((1 ≤ n) × (n ≤ 5)) ⊎ (n ≡ 15)
unfolding mend_checked whole_checked
mend-number sh k fs j n =
    then-number Low n (shape_checked sh) _ (λ e. let (low, high) = shape-number sh n e in inl (low, omega arith))
    (λ z.
    check-number Low n _ 4 _ (inl (omega arith))
    (check-number Low n _ 5 _ (inl (omega arith)) (check-number Low n _ 15 _ (inr (omega arith)) (passes-number Low n tt))))
  where
    Low : ℕ → Type 0
    Low m = ((1 ≤ m) × (m ≤ 5)) ⊎ (m ≡ 15)
