-- The lines of an axis that are right, run by run; and a code cube is one whose three axes are right.
use mathlib.Core.Path.{◌≡◌, sym, ◌∙◌}
use mathlib.Core.List.{List}
use Prim.Native.Nat.{ℕ, zero, suc, ◌+◌, ◌-◌, ◌*◌, ◌/◌, ◌%◌, ◌≤◌, ◌<◌}
use native.Mathlib.Nat.{suc-mul, zero-mul, mod-lt, mod-one, mod_self, zero-mod, mul-mod_left, add-mod_right, mul_comm, div-add-mod', div-lt_iff_lt-mul}
use native.Mathlib.Decide.{dec_lt}
use native.Mathlib.Omega.{arith}
use lib.ListN.{length, get_or}
use Rattle.span.proofs.Stretches.{stretch-end}
use Rattle.shape.specs.declared.Shape.{Shape}
use Rattle.shape.specs.declared.Line.{Line}
use Rattle.shape.specs.Shapes.{Valid, cells, stride_of, lines_of}
use Rattle.cube.specs.Cube.{CodeCube}
use Rattle.cube.specs.Inner.Checker.{Blocks, LinesRight}
use Rattle.shape.proofs.Geometry.{axis-cases, line-found, line-every}
use Rattle.cube.proofs.AxisRuns.{Begins, run_from, line_beside, line_at-run, beside-is, layer_below}
use Rattle.line.specs.Line.{Codeword}
use Rattle.line.specs.Run.{line_at}
use Rattle.line.proofs.Codeword.{codeword-cong}

module _ (r : ℕ) (sh : Shape) (axis : ℕ) (xs : List ℕ) where
  pub right-none : (n : ℕ) → LinesRight r sh axis n n xs
  right-none n = record { lines = λ m l over less. absurd (omega arith) }

  pub right-fewer : (i j k n : ℕ) → i ≤ j → k ≤ n → LinesRight r sh axis i n xs → LinesRight r sh axis j k xs
  right-fewer i j k n low high h = record { lines = λ m l over less. h.lines m l (omega arith) (omega arith) }

  pub right-append : (i k n : ℕ) → LinesRight r sh axis i k xs → LinesRight r sh axis k n xs → LinesRight r sh axis i n xs
  right-append i k n h h' =
      record {
        lines = λ m l over less.
            elim (dec_lt m k) [ yes below ↦ h.lines m l over below | no past ↦ h'.lines m l (omega arith) less ];
      }

  -- stretches of k lines each, one behind the other
  pub right-stretches : (n k : ℕ) → ((c : ℕ) → c < n → LinesRight r sh axis (c * k) (c * k + k) xs) → LinesRight r sh axis 0 (n * k) xs
  right-stretches zero k h = rw (zero-mul k) (right-none 0)
  right-stretches (suc n) k h =
      let last = h n (omega arith) in
      right-append 0 (n * k) (suc n * k) (right-stretches n k (λ c less. h c (omega arith)))
      (right-fewer (n * k) (n * k) (suc n * k) (n * k + k) (omega arith) (omega (arith, suc-mul n k)) last)

  -- a run of codewords is a block of right lines
  pub right-block : (m : ℕ) (l : Line) → Begins sh axis m l
      → ((t : ℕ) → t < l.stride * sh.w → Codeword r (line_at xs (run_from sh.w l) t) l.len)
      → LinesRight r sh axis m (m + l.stride) xs
  unfolding line_beside
  right-block m l b run =
      record {
        lines = λ k k-line over less e w lw.
            rw (beside-is sh axis m l b k k-line over less e)
            (codeword-cong r _ _ l.len (λ i li. line_at-run sh xs l (k - m) w i)
            (run ((k - m) * sh.w + w) (layer_below (k - m) l.stride w sh.w (omega arith) lw)));
      }

  pub right-run : (m : ℕ) (l : Line) → Begins sh axis m l → LinesRight r sh axis m (m + l.stride) xs → 0 < sh.w
      → (t : ℕ) → t < l.stride * sh.w → Codeword r (line_at xs (run_from sh.w l) t) l.len
  unfolding line_beside
  right-run m l b h pos t less =
      let q : t / sh.w < l.stride = (div-lt_iff_lt-mul pos).1 less in
      rw (sym (div-add-mod' t sh.w))
      (codeword-cong r _ _ l.len (λ i li. sym (line_at-run sh xs l (t / sh.w) (t % sh.w) i))
      (h.lines (m + t / sh.w) _ (omega arith) (omega arith) (b.beside (t / sh.w) q) (t % sh.w) (mod-lt t pos)))

  -- the lines of a code cube
  pub code-axis : CodeCube r sh xs → LinesRight r sh axis 0 (lines_of sh axis) xs
  code-axis h = record { lines = λ m l over less e. h.lines l.first l.stride l.len (line-found sh axis m l e) }

-- a cube whose three axes are right is a code cube
pub axes-code : (r : ℕ) (sh : Shape) (xs : List ℕ) → Valid sh → length xs ≡ sh.w * cells sh → ((p : ℕ) → get_or xs p 0 < 256) → LinesRight r sh 1 0 (lines_of sh 1) xs
    → LinesRight r sh 2 0 (lines_of sh 2) xs → LinesRight r sh 3 0 (lines_of sh 3) xs → CodeCube r sh xs
axes-code r sh xs v size bytes one two three =
    record {
      size = size;
      bytes = bytes;
      lines = λ first stride len line.
          let (axis, m, low, high, less, e) = line-every sh first stride len v line in
          (axis-cases (λ a. LinesRight r sh a 0 (lines_of sh a) xs) one two three axis low high).lines m _ (omega arith) less e;
    }

-- ---- blocks of lines

-- the rows and the columns of plane c, and the lines of axis 3
module _ (sh : Shape) where
  pub rows-blocks : (c : ℕ) → c < sh.l3 → Blocks sh 1 (c * sh.l2) (c * sh.l2 + sh.l2)
  unfolding stride_of lines_of
  rows-blocks c less =
      record {
        begins = mod-one _;
        ends = mod-one _;
        ordered = omega arith;
        within = omega (arith, stretch-end c sh.l3 sh.l2 less, mul_comm sh.l2 sh.l3);
      }

  pub columns-blocks : (c : ℕ) → c < sh.l3 → Blocks sh 2 (c * sh.l1) (c * sh.l1 + sh.l1)
  unfolding stride_of lines_of
  columns-blocks c less =
      record {
        begins = mul-mod_left c sh.l1;
        ends = add-mod_right (c * sh.l1) sh.l1 ∙ mul-mod_left c sh.l1;
        ordered = omega arith;
        within = omega (arith, stretch-end c sh.l3 sh.l1 less, mul_comm sh.l1 sh.l3);
      }

  pub axis3-blocks : Blocks sh 3 0 (sh.l1 * sh.l2)
  unfolding stride_of lines_of
  axis3-blocks = record { begins = zero-mod _; ends = mod_self _; ordered = omega arith; within = omega arith }
