-- Exactly one code cube has a given data string. Every axis can be encoded after another: a line of the first axis is then a sum of codewords
-- with constant weights, so it stays right; and the lines of the last axis are right by themselves.
use mathlib.Core.Path.{◌≡◌, sym, ap, ◌∙◌}
use mathlib.Core.List.{List}
use Prim.Native.Nat.{ℕ, ◌-◌, ◌*◌, ◌/◌, ◌%◌, ◌<◌}
use native.Mathlib.Nat.{mul_comm, mul-pos, mod-lt, div-lt_iff_lt-mul}
use native.Mathlib.Omega.{arith}
use lib.ListN.{length, get_or}
use Rattle.field.specs.Field.{Primitive}
use Rattle.line.specs.Line.{Codeword}
use Rattle.line.proofs.Codeword.{codeword-cong}
use Rattle.line.proofs.Erasure.{parity-off, parity-right, parity-across, parity-lt}
use Rattle.shape.specs.declared.Shape.{Shape}
use Rattle.shape.specs.Shapes.{Valid, cells, capacity, cell, IsLine, along, axis1, axis2, axis3}
use Rattle.shape.proofs.Geometry.{third-lt, axis1-cell, axis2-cell, axis3-cell}
use Rattle.data.specs.Data.{layer, HoldsData}
use Rattle.cube.specs.Cube.{layer_line, CodeCube}
use Rattle.cube.specs.Encoded.{of_layers, along1, along2, along3, layer_encoded, data_byte, encoded}
use Rattle.cube.specs.Theorems.{OneCodeCube}
use Rattle.data.proofs.Tables.{tabulate-lt}
use Rattle.cube.proofs.Tables.{length-of_layers, layer-of_layers}
use Rattle.cube.proofs.Unique.{code-cube-unique}

-- ---- a layer

module _ (r : ℕ) (p : Primitive r) (sh : Shape) (v : Valid sh) (x : ℕ → ℕ → ℕ → ℕ) where
  -- lines of axis 1 after the first, the second and the third axis
  first-encoded : (b c : ℕ) → Codeword r (λ a. along1 r sh.l1 x a b c) sh.l1
  unfolding along1
  first-encoded b c = parity-right r sh.l1 _ p (omega (arith, v.l1_low)) v.l1_high

  first-kept : (b c : ℕ) → b < sh.l2 → Codeword r (λ a. along2 r sh.l2 (along1 r sh.l1 x) a b c) sh.l1
  unfolding along2
  first-kept b c lb = parity-across r sh.l2 sh.l1 (λ q a. along1 r sh.l1 x a q c) p.fits (λ q. first-encoded q c) b lb

  pub first-right : (b c : ℕ) → b < sh.l2 → c < sh.l3 → Codeword r (λ a. layer_encoded r sh x a b c) sh.l1
  unfolding layer_encoded along3
  first-right b c lb lc =
      parity-across r sh.l3 sh.l1 (λ q a. along2 r sh.l2 (along1 r sh.l1 x) a b q) p.fits (λ q. first-kept b q lb) c lc

  -- lines of axis 2 after the second and the third
  second-encoded : (a c : ℕ) → Codeword r (λ b. along2 r sh.l2 (along1 r sh.l1 x) a b c) sh.l2
  unfolding along2
  second-encoded a c = parity-right r sh.l2 _ p (omega (arith, v.l2_low)) v.l2_high

  pub second-right : (a c : ℕ) → c < sh.l3 → Codeword r (λ b. layer_encoded r sh x a b c) sh.l2
  unfolding layer_encoded along3
  second-right a c lc =
      parity-across r sh.l3 sh.l2 (λ q b. along2 r sh.l2 (along1 r sh.l1 x) a b q) p.fits (λ q. second-encoded a q) c lc

  -- lines of axis 3
  pub third-right : (a b : ℕ) → Codeword r (λ c. layer_encoded r sh x a b c) sh.l3
  unfolding layer_encoded along3
  third-right a b = parity-right r sh.l3 _ p (omega (arith, v.l3_low)) v.l3_high

  pub data-kept : (a b c : ℕ) → a < sh.l1 - 2 → b < sh.l2 - 2 → c < sh.l3 - 2 → layer_encoded r sh x a b c ≡ x a b c
  unfolding layer_encoded along1 along2 along3
  data-kept a b c la lb lc = parity-off r sh.l3 _ c lc ∙ parity-off r sh.l2 _ b lb ∙ parity-off r sh.l1 _ a la

  pub encoded-lt : ((a b c : ℕ) → x a b c < 256) → (a b c : ℕ) → a < sh.l1 → b < sh.l2 → c < sh.l3 → layer_encoded r sh x a b c < 256
  unfolding layer_encoded along1 along2 along3
  encoded-lt bytes a b c la lb lc =
      parity-lt r sh.l3 _ p.fits
      (λ k. parity-lt r sh.l2 _ p.fits (λ j. parity-lt r sh.l1 _ p.fits (λ i. bytes i j k) a la) b lb) c lc

-- ---- the cube

module _ (r : ℕ) (p : Primitive r) (sh : Shape) (v : Valid sh) (ds : List ℕ) (bytes : (i : ℕ) → get_or ds i 0 < 256) where
  one : 0 < sh.l1
  one = omega (arith, v.l1_low)

  two : 0 < sh.l2
  two = omega (arith, v.l2_low)

  some : 0 < sh.w
  some = v.w_low

  -- the bytes of the cube by coordinates
  at : (w a b c : ℕ) → w < sh.w → a < sh.l1 → b < sh.l2 → c < sh.l3
      → layer_encoded r sh (data_byte sh ds w) a b c ≡ layer sh (encoded r sh ds) w (cell sh a b c)
  unfolding encoded
  at w a b c lw la lb lc = sym (layer-of_layers sh (λ t. layer_encoded r sh (data_byte sh ds t)) w a b c lw la lb lc)

  encoded-bytes : (i : ℕ) → get_or (encoded r sh ds) i 0 < 256
  unfolding encoded of_layers data_byte
  encoded-bytes =
      tabulate-lt (sh.w * cells sh) _
      (λ i l.
      let n : ℕ = i / sh.w in
      let below : n < cells sh = (div-lt_iff_lt-mul some).1 (rw (mul_comm (cells sh) sh.w) l) in
      encoded-lt r p sh v _ (λ a b c. bytes _) (n % sh.l1) (n / sh.l1 % sh.l2) (n / (sh.l1 * sh.l2)) (mod-lt n one) (mod-lt (n / sh.l1) two)
      (third-lt sh n (mul-pos one two) below))

  encoded-line : (f s n : ℕ) → IsLine sh f s n → (w : ℕ) → w < sh.w → Codeword r (layer_line sh (encoded r sh ds) w f s) n
  unfolding layer_line
  encoded-line _ _ _ (along (axis1 b c lb lc)) w lw =
      codeword-cong r _ _ sh.l1 (λ a la. at w a b c lw la lb lc ∙ ap (layer sh (encoded r sh ds) w) (sym (axis1-cell sh b c a)))
      (first-right r p sh v (data_byte sh ds w) b c lb lc)
  encoded-line _ _ _ (along (axis2 a c la lc)) w lw =
      codeword-cong r _ _ sh.l2 (λ b lb. at w a b c lw la lb lc ∙ ap (layer sh (encoded r sh ds) w) (sym (axis2-cell sh a c b)))
      (second-right r p sh v (data_byte sh ds w) a c lc)
  encoded-line _ _ _ (along (axis3 a b la lb)) w lw =
      codeword-cong r _ _ sh.l3 (λ c lc. at w a b c lw la lb lc ∙ ap (layer sh (encoded r sh ds) w) (sym (axis3-cell sh a b c)))
      (third-right r p sh v (data_byte sh ds w) a b)

  encoded-code : CodeCube r sh (encoded r sh ds)
  unfolding encoded
  encoded-code = record { size = length-of_layers sh _; bytes = encoded-bytes; lines = encoded-line }

  encoded-holds : length ds ≡ capacity sh → HoldsData sh (encoded r sh ds) ds
  unfolding data_byte
  encoded-holds size =
      record {
        size = size;
        bytes = λ a b c w la lb lc lw.
            sym (data-kept r p sh v (data_byte sh ds w) a b c la lb lc) ∙ at w a b c lw (omega arith) (omega arith) (omega arith);
      }

pub one-code-cube : OneCodeCube
unfolding OneCodeCube
one-code-cube r p sh v ds size bytes =
    let code = encoded-code r p sh v ds bytes in
    let holds = encoded-holds r p sh v ds bytes size in
    record { code = code; holds = holds; only = λ ys cy hy. code-cube-unique r p sh v ys (encoded r sh ds) cy code ds hy holds }
