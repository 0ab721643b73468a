-- The checks of the lent slices: they pass exactly where the slices have the lengths of a valid shape.
use mathlib.Core.Path.{◌≡◌, refl, sym, ap, subst, ◌∙◌}
use mathlib.Core.Bool.{Bool, true, false}
use Prim.Native.Nat.{ℕ, ◌+◌, ◌*◌, ◌≤◌}
use lib.Dec.{eqb, leb}
use borrow.Author.Tests.{eqb-true, eq-eqb, leb-true, le-leb}
use Rattle.answer.specs.declared.Refusal.{Refusal}
use Rattle.answer.specs.Values.{Checked, passes, fails, check, and_then, checked, refusal}
use Rattle.answer.proofs.Values.{check-passed, then-passed, then-refused, passes-injective}
use Rattle.shape.specs.declared.Shape.{Shape}
use Rattle.shape.specs.declared.Sizes.{Sizes}
use Rattle.shape.specs.Shapes.{Valid, cells, capacity, sizes, shape_checked}
use Rattle.shape.proofs.Valid.{both-parts, both_true, shape-passed, valid-passes}
use Rattle.data.specs.Calls.{slices_checked, cube_checked, cube_sized, read_checked, write_checked}

-- a test of the sizes that passes is one of the sizes of a valid shape
sizes-passed : (sh : Shape) (test : Sizes → Bool) → ◌≡◌ {A = Checked Unit} (and_then (shape_checked sh) (λ z. check (test z) 4 (passes tt))) (passes tt)
    → Valid sh × (test (sizes sh) ≡ true)
sizes-passed sh test e =
    let (z, fits, rest) = then-passed (shape_checked sh) _ tt e in
    let (v, same) = shape-passed sh z fits in
    (v, ap test (sym same) ∙ (check-passed (test z) 4 (passes tt) tt rest).0)

passed-sizes : (sh : Shape) (test : Sizes → Bool) → Valid sh → test (sizes sh) ≡ true
    → ◌≡◌ {A = Checked Unit} (and_then (shape_checked sh) (λ z. check (test z) 4 (passes tt))) (passes tt)
unfolding and_then check
passed-sizes sh test v e = rw (valid-passes sh v, e)

-- the slices of a call that passes have the lengths of a valid shape
pub checked-done : (sh : Shape) (d n : ℕ) → slices_checked sh d n ≡ passes tt → Valid sh × (d ≡ capacity sh) × (n ≡ sh.w * cells sh)
unfolding slices_checked sizes
checked-done sh d n e =
    let (v, same) = sizes-passed sh _ e in
    let (p, q) = both-parts (eqb d (capacity sh)) (eqb n (sh.w * cells sh)) same in
    (v, eqb-true d (capacity sh) p, eqb-true n (sh.w * cells sh) q)

pub done-checked : (sh : Shape) (d n : ℕ) → Valid sh → d ≡ capacity sh → n ≡ sh.w * cells sh → slices_checked sh d n ≡ passes tt
unfolding slices_checked sizes
done-checked sh d n v p q =
    passed-sizes sh _ v (both_true (eqb d (capacity sh)) (eqb n (sh.w * cells sh)) (eq-eqb _ _ p) (eq-eqb _ _ q))

pub cube-checked-done : (sh : Shape) (n : ℕ) → cube_checked sh n ≡ passes tt → Valid sh × (n ≡ sh.w * cells sh)
unfolding cube_checked sizes
cube-checked-done sh n e =
    let (v, same) = sizes-passed sh _ e in
    (v, eqb-true n (sh.w * cells sh) same)

pub cube-done-checked : (sh : Shape) (n : ℕ) → Valid sh → n ≡ sh.w * cells sh → cube_checked sh n ≡ passes tt
unfolding cube_checked sizes
cube-done-checked sh n v q = passed-sizes sh _ v (eq-eqb _ _ q)

-- what passes are the sizes of a valid shape
pub cube-sized-done : (sh : Shape) (n : ℕ) (z : Sizes) → cube_sized sh n ≡ passes z → Valid sh × (n ≡ sh.w * cells sh) × (z ≡ sizes sh)
unfolding cube_sized sizes
cube-sized-done sh n z e =
    let (y, fits, rest) = then-passed (shape_checked sh) _ z e in
    let (v, same) = shape-passed sh y fits in
    let (p, q) = check-passed (eqb n y.bytes) 4 (passes y) z rest in
    (v, eqb-true n y.bytes p ∙ ap (λ (x : Sizes). x.bytes) same, sym (passes-injective y z q) ∙ same)

-- what is asked behind the check of a cube
test-then : (b : Bool) (z : Sizes) (next : Sizes → Checked Unit) → check b 4 (next z) ≡ and_then (check b 4 (passes z)) next
unfolding check and_then
test-then true z next = refl
test-then false z next = refl

sized-then : (c : Checked Sizes) (test : Sizes → Bool) (next : Sizes → Checked Unit)
    → and_then c (λ z. check (test z) 4 (next z)) ≡ and_then (and_then c (λ z. check (test z) 4 (passes z))) next
unfolding and_then
sized-then (passes z) test next = test-then (test z) z next
sized-then (fails n) test next = refl

pub cube-sized-then : (sh : Shape) (n : ℕ) → cube_checked sh n ≡ and_then (cube_sized sh n) (λ z. passes tt)
unfolding cube_checked cube_sized
cube-sized-then sh n = sized-then (shape_checked sh) (λ z. eqb n z.bytes) (λ z. passes tt)

pub read-sized-then : (sh : Shape) (bytes room from to n : ℕ)
    → read_checked sh bytes room from to n ≡
    and_then (cube_sized sh bytes) (λ z. check (leb (from + n) z.capacity) 4 (check (leb (to + n) room) 4 (passes tt)))
unfolding read_checked cube_sized
read-sized-then sh bytes room from to n = sized-then (shape_checked sh) (λ z. eqb bytes z.bytes) _

-- so a call that answers nothing passes and refuses alike
pub cube-sized-passed : (sh : Shape) (n : ℕ) (z : Sizes) → cube_sized sh n ≡ passes z → cube_checked sh n ≡ passes tt
unfolding and_then
cube-sized-passed sh n z e = cube-sized-then sh n ∙ rw e

pub cube-sized-refused : (sh : Shape) (n : ℕ) (f : Refusal) → refusal {A = Sizes} f ≡ checked (cube_sized sh n)
    → refusal {A = Unit} f ≡ checked (cube_checked sh n)
cube-sized-refused sh n f e = rw (cube-sized-then sh n) (then-refused (cube_sized sh n) (λ z. passes tt) f e)

pub read-checked-done : (sh : Shape) (bytes room from to n : ℕ) → read_checked sh bytes room from to n ≡ passes tt
    → Valid sh × (bytes ≡ sh.w * cells sh) × (from + n ≤ capacity sh) × (to + n ≤ room)
unfolding read_checked sizes
read-checked-done sh bytes room from to n e =
    let (z, fits, e₁) = then-passed (shape_checked sh) _ tt e in
    let (v, same) = shape-passed sh z fits in
    let (p, e₂) = check-passed (eqb bytes z.bytes) 4 _ tt e₁ in
    let (q, e₃) = check-passed (leb (from + n) z.capacity) 4 _ tt e₂ in
    let (s, _) = check-passed (leb (to + n) room) 4 _ tt e₃ in (
      v,
      eqb-true bytes z.bytes p ∙ ap (λ (y : Sizes). y.bytes) same,
      subst (λ (y : Sizes). from + n ≤ y.capacity) same (leb-true (from + n) z.capacity q),
      leb-true (to + n) room s,
    )

pub read-done-checked : (sh : Shape) (bytes room from to n : ℕ) → Valid sh → bytes ≡ sh.w * cells sh → from + n ≤ capacity sh → to + n ≤ room
    → read_checked sh bytes room from to n ≡ passes tt
unfolding read_checked sizes and_then check
read-done-checked sh bytes room from to n v e l m =
    rw (valid-passes sh v, eq-eqb bytes (sh.w * cells sh) e, le-leb (from + n) (capacity sh) l, le-leb (to + n) room m)

pub write-done-checked : (sh : Shape) (bytes room from to n : ℕ) → Valid sh → bytes ≡ sh.w * cells sh → to + n ≤ capacity sh → from + n ≤ room
    → write_checked sh bytes room from to n ≡ passes tt
write-done-checked sh bytes room from to n v e l m = read-done-checked sh bytes room to from n v e l m
