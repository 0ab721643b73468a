-- The checks of a shape: they pass exactly on the valid shapes, whose sizes fit a machine word.
use mathlib.Core.Path.{◌≡◌, refl, sym}
use mathlib.Core.Bool.{Bool, true, false, false≢true}
use Prim.Native.Nat.{ℕ, ◌-◌, ◌*◌, ◌≤◌}
use native.Mathlib.Nat.{mul-le-mul}
use native.Mathlib.Omega.{arith}
use lib.Dec.{leb}
use borrow.Author.Tests.{leb-true, le-leb}
use Rattle.answer.specs.Values.{passes, fails, check}
use Rattle.answer.proofs.Values.{check-passed, passes-injective, check-number, passes-number}
use Rattle.shape.specs.declared.Shape.{Shape}
use Rattle.shape.specs.declared.Sizes.{Sizes}
use Rattle.shape.specs.Shapes.{both, within, lengths_fit, cells, sizes, shape_checked, Valid}

-- ---- the tests

pub both-parts : (a b : Bool) → both a b ≡ true → (a ≡ true) × (b ≡ true)
unfolding both
both-parts true b h = (refl, h)
both-parts false b h = absurd (false≢true h)

pub both_true : (a b : Bool) → a ≡ true → b ≡ true → both a b ≡ true
unfolding both
both_true a b p q = rw (p, q)

pub within-parts : (low high n : ℕ) → within low high n ≡ true → (low ≤ n) × (n ≤ high)
unfolding within
within-parts low high n h =
    let (p, q) = both-parts (leb low n) (leb n high) h in
    (leb-true low n p, leb-true n high q)

pub within-true : (low high n : ℕ) → low ≤ n → n ≤ high → within low high n ≡ true
unfolding within
within-true low high n p q = both_true _ _ (le-leb low n p) (le-leb n high q)

-- check 1
pub record Lengths (sh : Shape) : Type 0 where
  pub l1_low : 3 ≤ sh.l1
  pub l1_high : sh.l1 ≤ 255
  pub l2_low : 3 ≤ sh.l2
  pub l2_high : sh.l2 ≤ 255
  pub l3_low : 3 ≤ sh.l3
  pub l3_high : sh.l3 ≤ 255

pub lengths-parts : (sh : Shape) → lengths_fit sh ≡ true → Lengths sh
unfolding lengths_fit
lengths-parts sh h =
    let (p, qr) = both-parts (within 3 255 sh.l1) _ h in
    let (q, r) = both-parts (within 3 255 sh.l2) (within 3 255 sh.l3) qr in
    let a = within-parts 3 255 sh.l1 p in
    let b = within-parts 3 255 sh.l2 q in
    let c = within-parts 3 255 sh.l3 r in
    record { l1_low = a.0; l1_high = a.1; l2_low = b.0; l2_high = b.1; l3_low = c.0; l3_high = c.1 }

pub lengths-true : (sh : Shape) → Valid sh → lengths_fit sh ≡ true
unfolding lengths_fit
lengths-true sh v =
    both_true _ _ (within-true 3 255 sh.l1 v.l1_low v.l1_high)
    (both_true _ _ (within-true 3 255 sh.l2 v.l2_low v.l2_high) (within-true 3 255 sh.l3 v.l3_low v.l3_high))

-- ---- the checks 1, 2, 3

-- a shape that passes is valid, and what it needs is its sizes
pub shape-passed : (sh : Shape) (z : Sizes) → shape_checked sh ≡ passes z → Valid sh × (z ≡ sizes sh)
unfolding shape_checked
shape-passed sh z e =
    let (p, e₁) = check-passed _ 1 _ z e in
    let (q, e₂) = check-passed _ 2 _ z e₁ in
    let (r, e₃) = check-passed _ 3 _ z e₂ in
    let l = lengths-parts sh p in
    let w = within-parts 1 1024 sh.w q in (
      record {
        l1_low = l.l1_low;
        l1_high = l.l1_high;
        l2_low = l.l2_low;
        l2_high = l.l2_high;
        l3_low = l.l3_low;
        l3_high = l.l3_high;
        w_low = w.0;
        w_high = w.1;
        volume = leb-true (sh.w * cells sh) 268435456 r;
      },
      sym (passes-injective _ _ e₃),
    )

-- a valid shape passes
pub valid-passes : (sh : Shape) → Valid sh → shape_checked sh ≡ passes (sizes sh)
unfolding shape_checked check
valid-passes sh v =
    rw (lengths-true sh v, within-true 1 1024 sh.w v.w_low v.w_high, le-leb (sh.w * cells sh) 268435456 v.volume)

-- the numbers of these checks
pub shape-number : (sh : Shape) (n : ℕ) → shape_checked sh ≡ fails n → (1 ≤ n) × (n ≤ 3)
unfolding shape_checked
shape-number sh n =
    check-number Low n _ 1 _ (omega arith)
    (check-number Low n _ 2 _ (omega arith) (check-number Low n _ 3 _ (omega arith) (passes-number Low n (sizes sh))))
  where
    Low : ℕ → Type 0
    Low m = (1 ≤ m) × (m ≤ 3)

-- ---- the sizes fit a machine word

pub area-le : (a b : ℕ) → a ≤ 255 → b ≤ 255 → a * b ≤ 65025
area-le a b p q = mul-le-mul p q

pub volume-le : (a b c : ℕ) → a ≤ 255 → b ≤ 255 → c ≤ 255 → a * b * c ≤ 16581375
volume-le a b c p q r = mul-le-mul (area-le a b p q) r

-- the data cells of an axis
pub data-length-le : (a : ℕ) → a ≤ 255 → a - 2 ≤ 255
data-length-le a h = omega arith

pub bytes_le : (w n : ℕ) → w ≤ 1024 → n ≤ 16581375 → w * n ≤ 16979328000
bytes_le w n p q = mul-le-mul p q
