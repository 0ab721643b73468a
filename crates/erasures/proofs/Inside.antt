-- Which lines are looked at: those whose last place has a flag, among them every line of a valid shape.
use mathlib.Core.Path.{◌≡◌}
use mathlib.Core.List.{List}
use Prim.Native.Nat.{ℕ, ◌+◌, ◌-◌, ◌*◌, ◌≤◌, ◌<◌}
use native.Mathlib.Nat.{mul-le-mul_left}
use native.Mathlib.Omega.{arith}
use borrow.Author.Tests.{lt-ltb, ltb-true}
use lib.Dec.{ltb}
use lib.ListN.{length}
use Rattle.span.specs.Decision.{Decides}
use Rattle.shape.specs.declared.Shape.{Shape}
use Rattle.shape.specs.Shapes.{Valid, cells, IsLine}
use Rattle.shape.proofs.Geometry.{line-cell-lt, line-stride-high, line-length-low, line-length-high}
use Rattle.erasures.specs.Erasures.{Places}

-- the last place decides
pub places-last : (fs : List ℕ) (first stride len : ℕ) → 1 ≤ len → len ≤ 255 → stride ≤ 65025 → first + stride * (len - 1) < length fs → Places fs first stride len
places-last fs first stride len some few near last =
    record {
      some = some;
      few = few;
      near = near;
      within = λ i l. let before : i ≤ len - 1 = omega arith in omega (arith, last, mul-le-mul_left stride before);
    }

pub decides-places : (fs : List ℕ) (first stride len : ℕ) → 1 ≤ len → len ≤ 255 → stride ≤ 65025 → first < length fs → Decides (Places fs first stride len) (ltb (stride * (len - 1)) (length fs - first))
decides-places fs first stride len some few near begins =
    record {
      yes_when = λ p. lt-ltb (stride * (len - 1)) (length fs - first) (omega (arith, p.within (len - 1) (omega arith)));
      yes_then = λ e. places-last fs first stride len some few near (omega (arith, ltb-true (stride * (len - 1)) (length fs - first) e));
    }

pub line-places : (sh : Shape) (fs : List ℕ) (first stride len : ℕ) → Valid sh → length fs ≡ cells sh → IsLine sh first stride len → Places fs first stride len
line-places sh fs first stride len v size l =
    record {
      some = omega (arith, line-length-low sh first stride len v l);
      few = line-length-high sh first stride len v l;
      near = line-stride-high sh first stride len v l;
      within = λ i m. omega (arith, size, line-cell-lt sh first stride len i l m);
    }
