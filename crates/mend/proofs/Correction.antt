-- One pass, run by run: `Through n` is the pass of an axis after the runs of its first n lines.
use mathlib.Core.Path.{◌≡◌, refl, sym, ◌∙◌}
use mathlib.Core.List.{List}
use mathlib.Core.Logic.{inl, inr}
use Prim.Native.Nat.{ℕ, ◌+◌, ◌-◌, ◌*◌, ◌≤◌, ◌<◌}
use native.Mathlib.Nat.{mul-le-mul_right}
use native.Mathlib.Decide.{dec_lt}
use native.Mathlib.Omega.{arith}
use lib.ListN.{length, get_or}
use Rattle.answer.specs.Values.{passes}
use Rattle.shape.specs.declared.Shape.{Shape}
use Rattle.shape.specs.declared.Line.{Line}
use Rattle.shape.specs.Shapes.{Valid, lines_of, first_of, line_of}
use Rattle.shape.proofs.Geometry.{axis-line-every}
use Rattle.data.specs.Data.{layer}
use Rattle.cube.specs.Cube.{layer_line}
use Rattle.cube.proofs.AxisRuns.{Begins, run_from, line_beside, line_at-run, beside-is, layer_below, run_end}
use Rattle.mend.specs.Mend.{Pass}
use Rattle.line.specs.Line.{corrected}
use Rattle.line.specs.Run.{Off, Corrected}
use Rattle.line.proofs.Syndrome.{syndrome0-cong, syndrome1-cong}

pub corrected-cong : (r n : ℕ) (x y : ℕ → ℕ) → ((i : ℕ) → i < n → x i ≡ y i) → (i : ℕ) → i < n → corrected r n x i ≡ corrected r n y i
unfolding corrected
corrected-cong r n x y h i l = rw (syndrome0-cong x y n h, syndrome1-cong r x y n h, h i l)

pub record Through (r : ℕ) (sh : Shape) (axis n : ℕ) (xs ys : List ℕ) : Type 0 where
  pub size : length ys ≡ length xs
  pub lines :
      (m : ℕ) (l : Line) → m < n → line_of sh axis m ≡ passes l → (w i : ℕ) → w < sh.w → i < l.len →
      layer sh ys w (l.first + l.stride * i) ≡
      corrected r l.len (layer_line sh xs w l.first l.stride) i
  pub rest : (p : ℕ) → first_of sh axis n * sh.w ≤ p → get_or ys p 0 ≡ get_or xs p 0

module _ (r : ℕ) (sh : Shape) (axis : ℕ) (xs : List ℕ) where
  pub through-none : Through r sh axis 0 xs xs
  through-none = record { size = refl; lines = λ m l less. absurd (omega arith); rest = λ p le. refl }

  pub through-all : (n : ℕ) (ys : List ℕ) → Valid sh → lines_of sh axis ≤ n → Through r sh axis n xs ys → Pass r sh axis xs ys
  through-all n ys v le h =
      record {
        size = h.size;
        lines = λ first stride len l.
            let (m, low, high, below, e) = axis-line-every sh axis first stride len v l in h.lines m _ (omega arith) e;
      }

  module _ (m : ℕ) (l : Line) (b : Begins sh axis m l) (ys zs : List ℕ) (h : Through r sh axis m xs ys) (run : Corrected r (run_from sh.w l) ys zs) where
    -- bytes before the run and after it are kept
    before-kept : (p : ℕ) → p < l.first * sh.w → get_or zs p 0 ≡ get_or ys p 0
    unfolding run_from Off
    before-kept p less = run.kept p (λ i li. inl (omega arith))

    after_kept : (p : ℕ) → (l.first + l.stride * l.len) * sh.w ≤ p → get_or zs p 0 ≡ get_or ys p 0
    unfolding run_from Off
    after_kept p le = run.kept p (λ i li. inr (omega (arith, run_end l.first l.stride l.len sh.w i li)))

    unchanged : (q t i : ℕ) → layer_line sh ys t (l.first + q) l.stride i ≡ layer_line sh xs t (l.first + q) l.stride i
    unfolding layer_line layer
    unchanged q t i = h.rest ((l.first + q + l.stride * i) * sh.w + t) (rw b.first_is (omega (arith, mul-le-mul_right sh.w further)))
      where
        further : l.first ≤ l.first + q + l.stride * i
        further = omega arith

    block-corrected : (q t i : ℕ) → q < l.stride → t < sh.w → i < l.len
        → layer sh zs t (l.first + q + l.stride * i) ≡ corrected r l.len (layer_line sh xs t (l.first + q) l.stride) i
    unfolding layer_line run_from
    block-corrected q t i lq lt li =
        sym (line_at-run sh zs l q t i)
        ∙ run.lines (q * sh.w + t) (layer_below q l.stride t sh.w lq lt) i li
        ∙ corrected-cong r l.len _ _ (λ j lj. line_at-run sh ys l q t j ∙ unchanged q t j) i li

    pub through-more : Through r sh axis (m + l.stride) xs zs
    unfolding line_beside layer
    through-more =
        record {
          size = run.size ∙ h.size;
          lines = λ k k-line less e w i lw li.
              elim (dec_lt k m) [
                | yes below ↦
                    before-kept ((k-line.first + k-line.stride * i) * sh.w + w) (layer_below _ _ w sh.w (b.earlier k k-line i below e li) lw)
                    ∙ h.lines k k-line below e w i lw li
                | no over ↦
                    let same = beside-is sh axis m l b k k-line (omega arith) less e in
                    let here : i < l.len = rw same at li in
                    rw same (block-corrected (k - m) w i (omega arith) lw here)
              ];
          rest = λ p le.
              let over : (l.first + l.stride * l.len) * sh.w ≤ p = rw b.next_first at le in
              let further : l.first ≤ l.first + l.stride * l.len = omega arith in
              after_kept p over ∙ h.rest p (rw b.first_is (omega (arith, mul-le-mul_right sh.w further)));
        }
