-- The lines of an axis between two numbers, as runs one behind the other.
use mathlib.Core.Path.{◌≡◌, refl, sym, ap, subst, ◌∙◌}
use mathlib.Core.List.{List}
use Prim.Native.Nat.{ℕ, zero, suc, ◌+◌, ◌-◌, ◌*◌, ◌/◌, ◌%◌, ◌≤◌, ◌<◌}
use native.Mathlib.Nat.{mul_assoc, mul_comm, mul_left_comm, add-mul, add-zero, suc-mul, mul-suc, mul-div_cancel, div-add-mod'}
use native.Mathlib.Decide.{dec_le}
use native.Mathlib.Omega.{arith}
use lib.ListN.{length}
use Rattle.answer.specs.Values.{passes}
use Rattle.shape.specs.declared.Shape.{Shape}
use Rattle.shape.specs.declared.Line.{Line}
use Rattle.shape.specs.Shapes.{Valid, cells, stride_of, length_of, lines_of, first_of, line_of}
use Rattle.shape.proofs.Geometry.{stride_of-pos}
use Rattle.line.specs.declared.Run.{Run}
use Rattle.line.specs.Line.{Codeword}
use Rattle.line.specs.Run.{line_at, Inside, AllCodewords}
use Rattle.span.proofs.Stretches.{stretch-end}
use Rattle.rows.specs.Rows.{behind, AllRows}
use Rattle.cube.specs.Inner.Checker.{Blocks, LinesRight}
use Rattle.cube.proofs.AxisRuns.{Begins, begins-block, located, run_from}
use Rattle.cube.proofs.RightLines.{right-none, right-fewer, right-append, right-block, right-run}

-- a block that begins q blocks behind another is q runs behind it
moved : (w b q s n : ℕ) → (b + q) * (s * n) * w ≡ b * (s * n) * w + s * w * n * q
moved w b q s n = simp (add-mul, mul_assoc, mul_comm, mul_left_comm)

-- the block of number b
unfoldable pub block_of : Shape → ℕ → ℕ → Line
block_of sh axis b =
    record { first = b * (stride_of sh axis * length_of sh axis); stride = stride_of sh axis; len = length_of sh axis }

block_run : (sh : Shape) (axis b q : ℕ)
    → run_from sh.w (block_of sh axis (b + q)) ≡ behind (run_from sh.w (block_of sh axis b)) (stride_of sh axis * sh.w * length_of sh axis * q)
unfolding run_from behind block_of
block_run sh axis b q =
    let s = stride_of sh axis in
    let n = length_of sh axis in
    ap (λ (f : ℕ). record { first = f; stride = s * sh.w; len = n; width = s * sh.w }) (moved sh.w b q s n)

module _ (r : ℕ) (sh : Shape) (axis : ℕ) (xs : List ℕ) (v : Valid sh) (low : 1 ≤ axis) (high : axis ≤ 3) (size : length xs ≡ sh.w * cells sh) (b : ℕ) where
  block-begins : (q : ℕ) → (b + q) * stride_of sh axis < lines_of sh axis → Begins sh axis ((b + q) * stride_of sh axis) (block_of sh axis (b + q))
  unfolding block_of
  block-begins q less = begins-block sh axis (b + q) v low high less

  block-lines : (q : ℕ) → AllCodewords r (behind (run_from sh.w (block_of sh axis b)) (stride_of sh axis * sh.w * length_of sh axis * q)) xs →
      (t : ℕ) → t < (block_of sh axis (b + q)).stride * sh.w → Codeword r (line_at xs (run_from sh.w (block_of sh axis (b + q))) t) (block_of sh axis (b + q)).len
  unfolding run_from
  block-lines q all = (rw (sym (block_run sh axis b q)) at all).lines

  -- the lines of so many blocks are right where the runs are
  pub rows-lines : (count : ℕ) → (b + count) * stride_of sh axis ≤ lines_of sh axis →
      AllRows r (run_from sh.w (block_of sh axis b)) (stride_of sh axis * sh.w * length_of sh axis) count xs →
      LinesRight r sh axis (b * stride_of sh axis) ((b + count) * stride_of sh axis) xs
  rows-lines zero le all = right-fewer _ _ _ _ _ _ _ _ (omega arith) (omega (arith, ap (λ (k : ℕ). k * stride_of sh axis) (add-zero b))) (right-none r sh axis xs (b * stride_of sh axis))
  rows-lines (suc k) le all =
      let next : (b + suc k) * stride_of sh axis ≡ (b + k) * stride_of sh axis + stride_of sh axis =
      omega (arith, add-mul b (suc k) (stride_of sh axis), suc-mul k (stride_of sh axis), add-mul b k (stride_of sh axis)) in
      let here = block-begins k (omega (arith, stride_of-pos sh axis v)) in
      right-append _ _ _ _ _ _ _ (rows-lines k (omega arith) (λ q l. all q (omega arith)))
      (right-fewer _ _ _ _ _ _ _ _ (omega arith) (omega (arith, here.stride_is)) (right-block _ _ _ _ _ _ here (block-lines k (all k (omega arith)))))

  pub lines_rows : (count : ℕ) → (b + count) * stride_of sh axis ≤ lines_of sh axis →
      LinesRight r sh axis (b * stride_of sh axis) ((b + count) * stride_of sh axis) xs →
      AllRows r (run_from sh.w (block_of sh axis b)) (stride_of sh axis * sh.w * length_of sh axis) count xs
  unfolding run_from
  lines_rows count le h q less =
      let ends = stretch-end (b + q) (b + count) (stride_of sh axis) (omega arith) in
      let here = block-begins q (omega (arith, ends, stride_of-pos sh axis v)) in
      rw (sym (block_run sh axis b q))
      (record {
        inside = rw size here.inside;
        lines = right-run _ _ _ _ _ _ here (right-fewer _ _ _ _ _ _ _ _ (omega (arith, add-mul b q (stride_of sh axis))) (omega (arith, ends, here.stride_is)) h) v.w_low;
      })

-- the block that begins with a line that was found
pub block-found : (sh : Shape) (axis from : ℕ) (l : Line) → line_of sh axis from ≡ passes l → from % stride_of sh axis ≡ 0
    → l ≡ block_of sh axis (from / stride_of sh axis)
unfolding block_of first_of
block-found sh axis from l e aligned =
    (located sh axis from l e).same
    ∙ ap (λ (f : ℕ). record { first = f; stride = stride_of sh axis; len = length_of sh axis }) (omega arith)

-- numbers that are multiples, one below the other
pub multiple : (s n : ℕ) → n % s ≡ 0 → n / s * s ≡ n
multiple s n e = omega (arith, div-add-mod' n s)

pub multiples : (s from to : ℕ) → 0 < s → from % s ≡ 0 → to % s ≡ 0 → from ≤ to → (from / s + (to - from) / s) * s ≡ to
multiples s from to pos ef et le =
    ap (λ (k : ℕ). (from / s + k) * s) count ∙ ap (λ (k : ℕ). k * s) whole ∙ multiple s to et
  where
    below : from / s ≤ to / s
    below =
        elim (dec_le (from / s) (to / s)) [
          | yes h ↦ h
          | no h ↦ absurd (omega (arith, stretch-end (to / s) (from / s) s (omega arith), multiple s from ef, multiple s to et))
        ]

    whole : from / s + (to / s - from / s) ≡ to / s
    whole = omega (arith, below)

    rest : to - from ≡ (to / s - from / s) * s
    rest =
        omega (
          arith,
          multiple s from ef,
          multiple s to et,
          ap (λ (k : ℕ). k * s) whole,
          add-mul (from / s) (to / s - from / s) s,
        )

    count : (to - from) / s ≡ to / s - from / s
    count = ap (λ (k : ℕ). k / s) rest ∙ mul-div_cancel (to / s - from / s) pos

-- the runs of an axis end inside
gap-inside : (run : Run) (n : ℕ) → Inside run n → run.width ≡ run.stride → run.stride * run.len ≤ n
gap-inside run n h e =
    omega (
      arith,
      h.fits (run.len - 1) (omega (arith, h.some_place)),
      h.some_place,
      ap (λ (k : ℕ). run.stride * k) len,
      mul-suc run.stride (run.len - 1),
    )
  where
    len : run.len ≡ suc (run.len - 1)
    len = omega (arith, h.some_place)

pub run_small : (w : ℕ) (l : Line) (n : ℕ) → Inside (run_from w l) n → l.stride * w * l.len ≤ n
unfolding run_from
run_small w l n h = gap-inside _ n h refl

-- The lines between two numbers are right exactly where the runs from the line found on are.
module _ (r : ℕ) (sh : Shape) (axis from to : ℕ) (xs : List ℕ) (l : Line) (found : line_of sh axis from ≡ passes l) (size : length xs ≡ sh.w * cells sh)
    (blocks : Blocks sh axis from to) where
  b : ℕ
  b = from / stride_of sh axis

  count : ℕ
  count = (to - from) / stride_of sh axis

  begin : b * stride_of sh axis ≡ from
  unfolding b
  begin = multiple (stride_of sh axis) from blocks.begins

  end : (b + count) * stride_of sh axis ≡ to
  unfolding b count
  end =
      multiples (stride_of sh axis) from to (stride_of-pos sh axis (located sh axis from l found).valid) blocks.begins blocks.ends blocks.ordered

  pub rows-between : AllRows r (run_from sh.w l) (l.stride * sh.w * l.len) ((to - from) / l.stride) xs → LinesRight r sh axis from to xs
  unfolding block_of b count
  rows-between all =
      let at = located sh axis from l found in
      rw (begin, end) at
      (rows-lines r sh axis xs at.valid at.low at.high size b count (omega (arith, end, blocks.within))
      (subst (λ (x : Line). AllRows r (run_from sh.w x) (x.stride * sh.w * x.len) ((to - from) / x.stride) xs) (block-found sh axis from l found blocks.begins) all))

  pub between-rows : LinesRight r sh axis from to xs → AllRows r (run_from sh.w l) (l.stride * sh.w * l.len) ((to - from) / l.stride) xs
  unfolding block_of b count
  between-rows h =
      let at = located sh axis from l found in
      subst (λ (x : Line). AllRows r (run_from sh.w x) (x.stride * sh.w * x.len) ((to - from) / x.stride) xs) (sym (block-found sh axis from l found blocks.begins))
      (lines_rows r sh axis xs at.valid at.low at.high size b count (omega (arith, end, blocks.within)) (rw (sym begin, sym end) at h))
