-- What mending does, from its definitions alone: a pass determines every byte, keeps a code cube, and restores each line that has at most one
-- wrong byte; so the contracts determine the answer and the memory.
use mathlib.Core.Path.{◌≡◌, refl, sym, ap, ◌∙◌}
use mathlib.Core.List.{List}
use mathlib.Core.Logic.{◌≢◌}
use Prim.Native.Nat.{ℕ, ◌+◌, ◌*◌, ◌/◌, ◌%◌, ◌≤◌, ◌<◌}
use native.Mathlib.Nat.{mul_comm, mod-lt, div-add-mod', div-lt_iff_lt-mul}
use native.Mathlib.Decide.{dec_lt}
use native.Mathlib.Omega.{arith}
use lib.Arith.{digits_div}
use lib.ListN.{length, get_or, get_or-eq_default}
use lib.Seq.{ext_get_or}
use Rattle.answer.specs.Values.{Value, refused}
use Rattle.answer.proofs.Values.{fails-injective, passes-fails}
use Rattle.field.specs.Field.{Primitive}
use Rattle.line.specs.Line.{corrected}
use Rattle.line.proofs.Error.{corrected-codeword-same, corrected-one, corrected-lt}
use Rattle.shape.specs.declared.Shape.{Shape}
use Rattle.shape.specs.declared.Line.{Line}
use Rattle.shape.specs.Shapes.{Valid, cells, stride_of, length_of, lines_of, first_of, AxisLine, along}
use Rattle.shape.proofs.Geometry.{place_at-lt, stride_of-pos, length_of-low, On, place_on, on-place, line-through, line-is, line-passed, axis-line-every, line-length-high}
use Rattle.data.specs.Data.{layer}
use Rattle.cube.specs.Cube.{layer_line, CodeCube}
use Rattle.mend.specs.Mend.{Pass, Passes, AxisOutcome, axis_refused, axis_done, MendOutcome, mend_refused, mend_done, mend_uncorrected}
use Rattle.mend.proofs.Checks.{axis-mend-ready, mend-ready}

module _ (sh : Shape) (v : Valid sh) (axis : ℕ) (low : 1 ≤ axis) (high : axis ≤ 3) where
  -- what holds on every line of an axis in every layer holds of every byte of the cube
  every_byte : (P : ℕ → Type 0)
      → ((first stride len : ℕ) → AxisLine sh axis first stride len → (w i : ℕ) → w < sh.w → i < len
      → P ((first + stride * i) * sh.w + w))
      → (p : ℕ) → p < sh.w * cells sh → P p
  every_byte P on-lines p h =
      let n : ℕ = p / sh.w in
      let inside : p < cells sh * sh.w = omega (arith, mul_comm (cells sh) sh.w) in
      let on = line-through sh axis n v ((div-lt_iff_lt-mul v.w_low).1 inside) in
      let here = on-lines _ _ _ (line-is sh axis _ v low high on.line_lt) (p % sh.w) _ (mod-lt p v.w_low) on.place_lt in
      rw (← on.here, div-add-mod' p sh.w) at here

  -- lists of W bytes a cell that agree on every line of an axis in every layer are equal
  pub lines-ext : (xs ys : List ℕ) → length xs ≡ sh.w * cells sh → length ys ≡ length xs
      → ((first stride len : ℕ) → AxisLine sh axis first stride len → (w i : ℕ) → w < sh.w → i < len
      → layer sh ys w (first + stride * i) ≡ layer sh xs w (first + stride * i))
      → ys ≡ xs
  unfolding layer
  lines-ext xs ys size same agree =
      ext_get_or 0 ys xs same (λ p h. every_byte (λ q. get_or ys q 0 ≡ get_or xs q 0) agree p (rw (same, size) at h))

  module _ (r : ℕ) (xs : List ℕ) (size : length xs ≡ sh.w * cells sh) where
    -- a pass determines every byte
    pub pass-determined : (ys zs : List ℕ) → Pass r sh axis xs ys → Pass r sh axis xs zs → ys ≡ zs
    pass-determined ys zs p q =
        lines-ext zs ys (q.size ∙ size) (p.size ∙ sym q.size)
        (λ f s n l w i lw li. p.lines f s n l w i lw li ∙ sym (q.lines f s n l w i lw li))

    -- and leaves bytes
    pub pass-bytes : ((p : ℕ) → get_or xs p 0 < 256) → (ys : List ℕ) → Pass r sh axis xs ys → (p : ℕ) → get_or ys p 0 < 256
    unfolding layer layer_line
    pass-bytes bytes ys pass p =
        elim (dec_lt p (length ys)) [
          | yes inside ↦
              every_byte (λ q. get_or ys q 0 < 256)
              (λ f s n l w i lw li. rw (pass.lines f s n l w i lw li) (corrected-lt r n _ (λ k lk. bytes _) i li)) p
              (rw (pass.size, size) at inside)
          | no outside ↦
              let past : length ys ≤ p = omega arith in
              rw (get_or-eq_default ys 0 past) (omega arith)
        ]

    -- a code cube is left as it is
    pub code-cube-kept : (ys : List ℕ) → CodeCube r sh xs → Pass r sh axis xs ys → ys ≡ xs
    unfolding layer_line
    code-cube-kept ys code p =
        lines-ext xs ys size p.size
        (λ f s n l w i lw li. p.lines f s n l w i lw li ∙ corrected-codeword-same r n _ (code.lines f s n (along l) w lw) i)

-- and is its own pass
pub code-cube-pass : (r : ℕ) (sh : Shape) (axis : ℕ) (xs : List ℕ) → CodeCube r sh xs → Pass r sh axis xs xs
unfolding layer_line
code-cube-pass r sh axis xs code =
    record {
      size = refl;
      lines = λ f s n l w i lw li. sym (corrected-codeword-same r n _ (code.lines f s n (along l) w lw) i);
    }

-- ---- a line with at most one wrong byte

-- the two cubes agree on a line in layer w but for place j
unfoldable pub AgreeBut : Shape → (xs zs : List ℕ) → (first stride len w j : ℕ) → Type 0
AgreeBut sh xs zs first stride len w j =
    (i : ℕ) → i < len → i ≢ j → layer sh xs w (first + stride * i) ≡ layer sh zs w (first + stride * i)

module _ (r : ℕ) (prim : Primitive r) (sh : Shape) (v : Valid sh) (axis : ℕ) (xs zs : List ℕ) (bytes : (p : ℕ) → get_or xs p 0 < 256)
    (code : CodeCube r sh zs) where
  corrected-restored : (f s n : ℕ) → AxisLine sh axis f s n → (w : ℕ) → w < sh.w → (j : ℕ) → j < n → AgreeBut sh xs zs f s n w j
      → (i : ℕ) → i < n → corrected r n (layer_line sh xs w f s) i ≡ layer sh zs w (f + s * i)
  unfolding layer layer_line AgreeBut
  corrected-restored f s n l w lw j lj agree i li =
      corrected-one r n _ _ j (code.lines f s n (along l) w lw) lj agree prim (line-length-high sh f s n v (along l)) (λ k lk. bytes _)
      (λ k lk. code.bytes _) i li

  -- on a line and a layer where the cube differs from a code cube in one place at most, the pass of that axis gives the code cube's bytes
  pub line-restored : (ys : List ℕ) → Pass r sh axis xs ys → (f s n : ℕ) → AxisLine sh axis f s n → (w : ℕ) → w < sh.w → (j : ℕ) → j < n
      → AgreeBut sh xs zs f s n w j → (i : ℕ) → i < n → layer sh ys w (f + s * i) ≡ layer sh zs w (f + s * i)
  line-restored ys p f s n l w lw j lj agree i li = p.lines f s n l w i lw li ∙ corrected-restored f s n l w lw j lj agree i li

  -- where no line of an axis has more than one wrong byte in a layer, its pass restores the cube
  pub pass-restores : length zs ≡ length xs
      → ((f s n : ℕ) → AxisLine sh axis f s n → (w : ℕ) → w < sh.w → (j : ℕ) × (j < n) × AgreeBut sh xs zs f s n w j)
      → Pass r sh axis xs zs
  pass-restores size single =
      record {
        size = size;
        lines = λ f s n l w i lw li.
            let (j, lj, agree) = single f s n l w lw in sym (corrected-restored f s n l w lw j lj agree i li);
      }

-- ---- the three passes

module _ (r : ℕ) (sh : Shape) (v : Valid sh) (xs : List ℕ) (size : length xs ≡ sh.w * cells sh) where
  pub passes-determined : (ys zs : List ℕ) → Passes r sh xs ys → Passes r sh xs zs → ys ≡ zs
  passes-determined ys zs p q =
      let one = pass-determined sh v 1 (omega arith) (omega arith) r xs size _ _ p.pass1 q.pass1 in
      let size1 = q.pass1.size ∙ size in
      let two = pass-determined sh v 2 (omega arith) (omega arith) r _ size1 _ _ (rw one at p.pass2) q.pass2 in
      pass-determined sh v 3 (omega arith) (omega arith) r _ (q.pass2.size ∙ size1) _ _ (rw two at p.pass3) q.pass3

  pub code-cube-unchanged : (ys : List ℕ) → CodeCube r sh xs → Passes r sh xs ys → ys ≡ xs
  code-cube-unchanged ys code p =
      let one = code-cube-kept sh v 1 (omega arith) (omega arith) r xs size _ code p.pass1 in
      let two = code-cube-kept sh v 2 (omega arith) (omega arith) r xs size _ code (rw one at p.pass2) in
      code-cube-kept sh v 3 (omega arith) (omega arith) r xs size ys code (rw two at p.pass3)

-- a wrong byte by itself is restored
module _ (sh : Shape) (v : Valid sh) (axis : ℕ) (xs zs : List ℕ) (q : ℕ) (agree : (p : ℕ) → p ≢ q → get_or xs p 0 ≡ get_or zs p 0)
    (f s n : ℕ) (l : AxisLine sh axis f s n) where
  -- a line of the axis is the one of some number
  numbered : (m : ℕ) × (m < lines_of sh axis) × (n ≡ length_of sh axis) × ((i : ℕ) → f + s * i ≡ first_of sh axis m + stride_of sh axis * i)
  numbered =
      let (m, low, high, below, e) = axis-line-every sh axis f s n v l in
      let same = (line-passed sh axis m _ e).4 in
      (m, below, ap (λ (x : Line). x.len) same, λ i. ap (λ (x : Line). x.first + x.stride * i) same)

  -- the wrong byte is at most one place of it
  off-place : (w : ℕ) → w < sh.w → AgreeBut sh xs zs f s n w (place_on sh axis (q / sh.w))
  unfolding layer AgreeBut
  off-place w lw i li ne = agree _ (λ same. ne (here same))
    where
      here : (f + s * i) * sh.w + w ≡ q → i ≡ place_on sh axis (q / sh.w)
      here same =
          let (m, below, length, cell) = numbered in
          let on : On sh axis (f + s * i) m i = record { line_lt = below; place_lt = rw length at li; here = cell i } in
          on-place sh axis _ m i v on ∙ ap (place_on sh axis) (sym (digits_div (f + s * i) lw) ∙ ap (λ (k : ℕ). k / sh.w) same)

  place_here : place_on sh axis (q / sh.w) < n
  unfolding place_on
  place_here =
      let (m, below, length, cell) = numbered in
      rw length (place_at-lt (stride_of sh axis) (length_of sh axis) (stride_of-pos sh axis v) (q / sh.w) (omega (arith, length_of-low sh axis v)))

pub byte-restored : (r : ℕ) → Primitive r → (sh : Shape) → Valid sh → (xs zs : List ℕ) → ((p : ℕ) → get_or xs p 0 < 256)
    → CodeCube r sh zs → length zs ≡ length xs → (q : ℕ) → ((p : ℕ) → p ≢ q → get_or xs p 0 ≡ get_or zs p 0) → Passes r sh xs zs
byte-restored r prim sh v xs zs bytes code size q agree =
    record {
      after1 = zs;
      after2 = zs;
      pass1 =
          pass-restores r prim sh v 1 xs zs bytes code size
          (λ f s n l w lw. (place_on sh 1 (q / sh.w), place_here sh v 1 xs zs q agree f s n l, off-place sh v 1 xs zs q agree f s n l w lw));
      pass2 = code-cube-pass r sh 2 zs code;
      pass3 = code-cube-pass r sh 3 zs code;
    }

-- ---- the contracts determine the answer and the memory

pub axis-outcome-determined : {r : ℕ} {sh : Shape} {axis : ℕ} {xs ys zs : List ℕ} {a b : Value Unit}
    → AxisOutcome r sh axis xs ys a → AxisOutcome r sh axis xs zs b → (a ≡ b) × (ys ≡ zs)
axis-outcome-determined (axis_refused m e p) (axis_refused n f q) = (ap refused (fails-injective m n (sym e ∙ f)), p ∙ sym q)
axis-outcome-determined (axis_refused m e p) (axis_done f q) = absurd (passes-fails tt m (sym f ∙ e))
axis-outcome-determined (axis_done e p) (axis_refused n f q) = absurd (passes-fails tt n (sym e ∙ f))
axis-outcome-determined {r} {sh} {axis} {xs} {ys} {zs} (axis_done e p) (axis_done f q) =
    let ok = axis-mend-ready sh axis (length xs) e in
    (refl, pass-determined sh ok.valid axis ok.on.0 ok.on.1 r xs ok.size ys zs p q)

pub outcome-determined : {r : ℕ} {sh : Shape} {xs fs before ys zs : List ℕ} {a b : Value Unit}
    → MendOutcome r sh xs fs before ys a → MendOutcome r sh xs fs before zs b → (a ≡ b) × (ys ≡ zs)
outcome-determined (mend_refused m e p) (mend_refused n f q) = (ap refused (fails-injective m n (sym e ∙ f)), p ∙ sym q)
outcome-determined (mend_refused m e p) (mend_done f q c) = absurd (passes-fails tt m (sym f ∙ e))
outcome-determined (mend_refused m e p) (mend_uncorrected f us q c z) = absurd (passes-fails tt m (sym f ∙ e))
outcome-determined (mend_done e p c) (mend_refused n f q) = absurd (passes-fails tt n (sym e ∙ f))
outcome-determined {r} {sh} {xs} {fs} {before} {ys} {zs} (mend_done e p c) (mend_done f q d) =
    let ok = mend-ready sh _ fs _ e in (refl, passes-determined r sh ok.valid xs ok.size ys zs p q)
outcome-determined {r} {sh} {xs} {fs} {before} {ys} (mend_done e p c) (mend_uncorrected f us q d z) =
    let ok = mend-ready sh _ fs _ e in absurd (d (rw (passes-determined r sh ok.valid xs ok.size us ys q p) c))
outcome-determined (mend_uncorrected e us p c y) (mend_refused n f q) = absurd (passes-fails tt n (sym e ∙ f))
outcome-determined {r} {sh} {xs} {fs} {before} {ys} {zs} (mend_uncorrected e us p c y) (mend_done f q d) =
    let ok = mend-ready sh _ fs _ e in absurd (c (rw (passes-determined r sh ok.valid xs ok.size us zs p q) d))
outcome-determined (mend_uncorrected e us p c y) (mend_uncorrected f ts q d z) = (refl, y ∙ sym z)
