-- A line of the cube as a run of byte lines, one a layer, and whether it is right; and the lines of an axis, by their numbers.
use mathlib.Core.Path.{◌≡◌, sym, ap, subst, ◌∙◌}
use mathlib.Core.Bool.{Bool, true, false}
use mathlib.Core.List.{List}
use mathlib.Core.Logic.{◌≢◌}
use Prim.Native.Nat.{ℕ, ◌+◌, ◌*◌, ◌<◌}
use native.Mathlib.Nat.{one-mul}
use native.Mathlib.Omega.{arith}
use lib.ListN.{length, get_or}
use Rattle.answer.specs.declared.Refusal.{Refusal}
use Rattle.answer.specs.Values.{passes, checked, refusal}
use Rattle.answer.proofs.Values.{passes-injective, refusal-gives}
use Rattle.span.specs.Decision.{Decides}
use Rattle.span.proofs.Decision.{decides-yes, decides-no, decides-map}
use Rattle.shape.specs.declared.Shape.{Shape}
use Rattle.shape.specs.declared.Line.{Line}
use Rattle.shape.specs.Shapes.{Valid, IsLine, along, lines_of, line_of}
use Rattle.shape.specs.Flags.{missing, none_missing}
use Rattle.shape.proofs.Missing.{none-missing}
use Rattle.shape.proofs.Geometry.{axis-cases, axis-line-every, axis-line-found, all-axes, line-stride-pos}
use Rattle.data.specs.Data.{layer}
use Rattle.cube.specs.Cube.{layer_line, CodeCube}
use Rattle.line.specs.declared.Run.{Run}
use Rattle.line.specs.Run.{line_at, Inside, CheckRun}
use Rattle.line.proofs.Codeword.{codeword-cong}
use Rattle.stopping.specs.Stopping.{on_line}
use Rattle.stopping.proofs.Stopping.{on_line-none}
use Rattle.peel.specs.Peel.{Sized}
use Rattle.peel.specs.Inner.OnLine.{Neighbours, run_of}
use Rattle.peel.proofs.Lines.{run-place, lines-inside}
use Rattle.fill.specs.Inner.Verify.{Right, LineRight, AxisRight, AllRight}

-- ---- layers

-- the byte lines of a line of the cube, one a layer
abbrev pub run-of : Shape → ℕ → ℕ → ℕ → Run
run-of sh first stride len = record { first = first * sh.w; stride = stride * sh.w; len = len; width = sh.w }

run-layer : (sh : Shape) (xs : List ℕ) (first stride len t i : ℕ) → line_at xs (run-of sh first stride len) t i ≡ layer_line sh xs t first stride i
unfolding line_at layer_line layer
run-layer sh xs first stride len t i = ap (λ (p : ℕ). get_or xs (p + t) 0) (run-place sh.w first stride i)

pub neighbours-one : (sh : Shape) (first stride len : ℕ) → Valid sh → IsLine sh first stride len → Neighbours sh first stride len 1
neighbours-one sh first stride len v l =
    record {
      some = omega arith;
      apart = line-stride-pos sh first stride len v l;
      each = λ q b. subst (λ (f : ℕ). IsLine sh f stride len) (omega arith) l;
    }

module _ (sh : Shape) (xs fs : List ℕ) (z : Sized sh xs fs) (first stride len : ℕ) (l : IsLine sh first stride len) where
  pub run_inside : Inside (run-of sh first stride len) (length xs)
  unfolding run_of
  run_inside =
      subst (λ (width : ℕ). Inside (record { first = first * sh.w; stride = stride * sh.w; len = len; width = width }) (length xs)) (one-mul sh.w)
      (lines-inside sh xs z.valid z.bytes first stride len 1 (neighbours-one sh first stride len z.valid l))

  -- ---- whether a line is right

  -- a line with a missing cell
  pub right-missing : (r : ℕ) → on_line (missing fs) first stride len ≢ 0 → Decides (Right r sh xs fs first stride len) true
  unfolding Right
  right-missing r ne = decides-yes (λ none. absurd (ne none))

  -- a line without one
  pub right-codewords : (r : ℕ) → on_line (missing fs) first stride len ≡ 0 → (b : Bool) → CheckRun r (run-of sh first stride len) xs b
      → Decides (Right r sh xs fs first stride len) b
  unfolding Right
  right-codewords r none b o =
      decides-map (λ k n t m. codeword-cong r _ _ len (λ i q. run-layer sh xs first stride len t i) (k.lines t m))
      (λ h.
      record {
        inside = run_inside;
        lines = λ t m. codeword-cong r _ _ len (λ i q. sym (run-layer sh xs first stride len t i)) (h none t m);
      }) o

-- ---- the lines of an axis, by their numbers

module _ (r : ℕ) (sh : Shape) (xs fs : List ℕ) (axis : ℕ) where
  -- a line that a call finds is the one with its number
  pub line-decided : (m : ℕ) (l : Line) → line_of sh axis m ≡ passes l → (b : Bool) → Decides (Right r sh xs fs l.first l.stride l.len) b
      → Decides (LineRight r sh xs fs axis m) b
  unfolding LineRight
  line-decided m l e b d =
      decides-map
      (λ h x f. subst (λ (y : Line). Right r sh xs fs y.first y.stride y.len) (passes-injective l x (sym e ∙ f)) h)
      (λ h. h l e) d

  -- where there is none, there is none to be right
  pub line-none : (m : ℕ) (f : Refusal) → refusal {A = Line} f ≡ checked (line_of sh axis m) → Decides (LineRight r sh xs fs axis m) true
  unfolding LineRight checked
  line-none m f e = decides-yes (λ l found. absurd (refusal-gives f l (e ∙ ap checked found)))

  -- the lines of the numbers that the axis has are its lines
  pub axis-decided : Valid sh → (b : Bool) → Decides ((m : ℕ) → m < lines_of sh axis → LineRight r sh xs fs axis m) b
      → Decides (AxisRight r sh xs fs axis) b
  unfolding LineRight AxisRight
  axis-decided v b d =
      decides-map
      (λ h first stride len l. let (m, _, _, less, found) = axis-line-every sh axis first stride len v l in h m less _ found)
      (λ h m less l found. h _ _ _ (axis-line-found sh axis m l found)) d

module _ (r : ℕ) (sh : Shape) (xs fs : List ℕ) where
  pub axis-right : (axis : ℕ) → AllRight r sh xs fs → AxisRight r sh xs fs axis
  unfolding AllRight AxisRight
  axis-right axis h first stride len l = h first stride len (along l)

  pub all_right : Valid sh → AxisRight r sh xs fs 1 → AxisRight r sh xs fs 2 → AxisRight r sh xs fs 3 → AllRight r sh xs fs
  unfolding AllRight AxisRight
  all_right v one two three = all-axes (Right r sh xs fs) v (axis-cases (AxisRight r sh xs fs) one two three)

  -- an axis that is not right
  pub axis-wrong : (axis : ℕ) → (AxisRight r sh xs fs axis → ⊥) → Decides (AllRight r sh xs fs) false
  axis-wrong axis h = decides-no (λ a. h (axis-right axis a))

  -- two axes that are, and the third
  pub axis-last : Valid sh → AxisRight r sh xs fs 1 → AxisRight r sh xs fs 2 → (b : Bool) → Decides (AxisRight r sh xs fs 3) b
      → Decides (AllRight r sh xs fs) b
  axis-last v one two b d = decides-map (all_right v one two) (axis-right 3) d

  -- where no cell is missing every line counts
  pub code-right : Sized sh xs fs → ((p : ℕ) → get_or xs p 0 < 256) → none_missing fs ≡ true → (b : Bool) → Decides (CodeCube r sh xs) b
      → Decides (AllRight r sh xs fs) b
  unfolding AllRight Right
  code-right z bytes none b d =
      decides-map (λ code first stride len l n. code.lines first stride len l)
      (λ a.
      record {
        size = z.bytes;
        bytes = bytes;
        lines = λ first stride len l.
            a first stride len l (on_line-none (missing fs) first stride len (λ i m. none-missing fs none (first + stride * i)));
      }) d
