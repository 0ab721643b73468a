-- Lines side by side: as a run of byte lines, one a layer, which lies inside the cube; and those that miss the same places.
use mathlib.Core.Path.{◌≡◌, ap, subst}
use mathlib.Core.Bool.{Bool}
use mathlib.Core.List.{List}
use Prim.Native.Nat.{ℕ, ◌+◌, ◌-◌, ◌*◌, ◌≤◌, ◌<◌}
use native.Mathlib.Nat.{mul-le-mul_right, add-mul}
use native.Mathlib.Decide.{ℕ_discrete}
use native.Mathlib.Omega.{arith}
use lib.ListN.{length}
use Rattle.span.proofs.Stretches.{stretch-end}
use Rattle.shape.specs.declared.Shape.{Shape}
use Rattle.shape.specs.Shapes.{Valid, cells, IsLine}
use Rattle.shape.proofs.Geometry.{line-cell-lt, line-length-low, line-length-high}
use Rattle.cube.specs.Cube.{layer_line}
use Rattle.cube.proofs.AxisRuns.{run_from, line_at-run}
use Rattle.line.specs.Run.{line_at, Inside}
use Rattle.std.specs.Prelude.{Option, None, Some, MatchOption}
use Rattle.std.specs.Option.{unwrap_or}
use Rattle.erasures.specs.Erasures.{Scanned}
use Rattle.peel.specs.Inner.OnLine.{Neighbours, Alike, run_of}

-- ---- neighbouring lines as a run

pub run-place : (w first stride i : ℕ) → first * w + stride * w * i ≡ (first + stride * i) * w
run-place w first stride i = omega arith

pub run-beside : (sh : Shape) (xs : List ℕ) (first stride len n q t i : ℕ)
    → line_at xs (run_of sh first stride len n) (q * sh.w + t) i ≡ layer_line sh xs t (first + q) stride i
unfolding line_at run_of run_from
run-beside sh xs first stride len n q t i = line_at-run sh xs (record { first = first; stride = stride; len = len }) q t i

pub neighbours-fewer : {sh : Shape} {first stride len n m : ℕ} → Neighbours sh first stride len n → 1 ≤ m → m ≤ n → Neighbours sh first stride len m
neighbours-fewer b some le = record { some = some; apart = omega (arith, b.apart); each = λ q h. b.each q (omega arith) }

pub neighbours-first : {sh : Shape} {first stride len n : ℕ} → Neighbours sh first stride len n → IsLine sh first stride len
neighbours-first {sh} {first} {stride} {len} b =
    let e : first + 0 ≡ first = omega arith in
    subst (λ (f : ℕ). IsLine sh f stride len) e (b.each 0 b.some)

module _ (sh : Shape) (xs : List ℕ) (v : Valid sh) (bytes : length xs ≡ sh.w * cells sh) (first stride len n : ℕ)
    (l : Neighbours sh first stride len n) where
  -- the cells at one place lie inside the cube
  cells-room : (i : ℕ) → i < len → first * sh.w + stride * sh.w * i + n * sh.w ≤ length xs
  cells-room i m =
      let last = line-cell-lt sh (first + (n - 1)) stride len i (l.each (n - 1) (omega (arith, l.some))) m in
      let same : first + stride * i + n ≡ first + (n - 1) + stride * i + 1 = omega (arith, l.some) in
      omega (
        arith,
        bytes,
        run-place sh.w first stride i,
        add-mul (first + stride * i) n sh.w,
        ap (λ (k : ℕ). k * sh.w) same,
        add-mul (first + (n - 1) + stride * i) 1 sh.w,
        stretch-end (first + (n - 1) + stride * i) (cells sh) sh.w last,
      )

  -- where the lines start, how far their places are apart, and how wide they are, in bytes
  pub first-room : first * sh.w ≤ length xs
  first-room = omega (arith, cells-room 0 (omega (arith, line-length-low sh (first + 0) stride len v (l.each 0 l.some))))

  pub stride-room : stride * sh.w ≤ length xs
  stride-room = omega (arith, cells-room 1 (omega (arith, line-length-low sh (first + 0) stride len v (l.each 0 l.some))))

  pub width_room : n * sh.w ≤ length xs
  width_room = omega (arith, mul-le-mul_right sh.w l.apart, stride-room)

  pub lines-inside : Inside (run_of sh first stride len n) (length xs)
  unfolding run_of
  lines-inside =
      let one = l.each 0 l.some in
      record {
        some_place = omega (arith, line-length-low sh (first + 0) stride len v one);
        few_places = line-length-high sh (first + 0) stride len v one;
        apart = mul-le-mul_right sh.w l.apart;
        fits = cells-room;
      }

-- ---- neighbouring lines that miss the same places

module _ {M : ℕ → Bool} {first stride len count j k : ℕ} where
  -- as many lines as the first that is unlike lies behind this one, or all
  pub alike-found : {most : ℕ} (r : Option ℕ) → 1 ≤ most → 1 ≤ count → count ≤ 2 → Scanned M first stride len count j k
      → MatchOption r ((n : ℕ) → 1 ≤ n → n < most → Scanned M (first + n) stride len count j k)
      (λ n. (1 ≤ n) × (n < most) × (n ≤ n) × ((q : ℕ) → 1 ≤ q → q < n → Scanned M (first + q) stride len count j k))
      → (1 ≤ unwrap_or r most) × (unwrap_or r most ≤ most) × Alike M first stride len (unwrap_or r most) count j k
  alike-found {most} r some one few here = by r
    where
      up : (n : ℕ) → ((q : ℕ) → 1 ≤ q → q < n → Scanned M (first + q) stride len count j k) → Alike M first stride len n count j k
      up n more =
          record {
            some = one;
            few = few;
            each = λ q l.
                elim (ℕ_discrete q 0) [
                  | yes e ↦ let same : first + q ≡ first = omega arith in rw same here
                  | no ne ↦ more q (omega arith) l
                ];
          }

      by : (r : Option ℕ) → MatchOption r ((n : ℕ) → 1 ≤ n → n < most → Scanned M (first + n) stride len count j k)
          (λ n. (1 ≤ n) × (n < most) × (n ≤ n) × ((q : ℕ) → 1 ≤ q → q < n → Scanned M (first + q) stride len count j k))
          → (1 ≤ unwrap_or r most) × (unwrap_or r most ≤ most) × Alike M first stride len (unwrap_or r most) count j k
      by None all = (some, omega arith, up most all)
      by (Some n) (low, less, _, all) = (low, omega arith, up n all)
