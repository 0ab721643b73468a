-- A data string determines its code cube. Two code cubes with one data string agree on the data cells; a line on which they agree but for the
-- two parity places is the same in both: so they agree along axis 1, then along axis 2, then along axis 3.
use mathlib.Core.Path.{◌≡◌, sym, ◌∙◌}
use mathlib.Core.List.{List}
use Prim.Native.Nat.{ℕ, ◌+◌, ◌-◌, ◌*◌, ◌<◌}
use native.Mathlib.Omega.{arith}
use Rattle.shape.specs.declared.Shape.{Shape}
use Rattle.shape.specs.Shapes.{Valid, cell, IsLine, along, axis1, axis2, axis3}
use Rattle.data.specs.Data.{layer, HoldsData}
use Rattle.cube.specs.Cube.{layer_line, CodeCube}
use Rattle.shape.proofs.Geometry.{axis1-cell, axis2-cell, axis3-cell, line-length-low, line-length-high}
use Rattle.field.specs.Field.{Primitive}
use Rattle.data.proofs.Cells.{cells_ext}
use Rattle.line.proofs.Codeword.{codeword-unique}

module _ (r : ℕ) (p : Primitive r) (sh : Shape) (valid : Valid sh) (xs ys : List ℕ)
    (cx : CodeCube r sh xs) (cy : CodeCube r sh ys) where
  -- a line that is the same in both but for its parity is the same in both
  line-agrees : (f s n w : ℕ) → IsLine sh f s n → w < sh.w
      → ((i : ℕ) → i < n - 2 → layer sh xs w (f + s * i) ≡ layer sh ys w (f + s * i))
      → (i : ℕ) → i < n → layer sh xs w (f + s * i) ≡ layer sh ys w (f + s * i)
  unfolding layer layer_line
  line-agrees f s n w l h same =
      codeword-unique r (layer_line sh xs w f s) (layer_line sh ys w f s) n (n - 2) (n - 1) p (line-length-high sh f s n valid l)
      (λ i _. cx.bytes _) (λ i _. cy.bytes _) (cx.lines f s n l w h) (cy.lines f s n l w h)
      (λ i g d e. same i (omega (arith, line-length-low sh f s n valid l)))

  module _ (w : ℕ) (h : w < sh.w) where
    along-axis1 : (b c : ℕ) → b < sh.l2 → c < sh.l3
        → ((a : ℕ) → a < sh.l1 - 2 → layer sh xs w (cell sh a b c) ≡ layer sh ys w (cell sh a b c))
        → (a : ℕ) → a < sh.l1 → layer sh xs w (cell sh a b c) ≡ layer sh ys w (cell sh a b c)
    along-axis1 b c q t same a g =
        rw (axis1-cell sh b c a) at (line-agrees _ _ _ w (along (axis1 b c q t)) h (λ i m. rw (axis1-cell sh b c i) (same i m)) a g)

    along-axis2 : (a c : ℕ) → a < sh.l1 → c < sh.l3
        → ((b : ℕ) → b < sh.l2 - 2 → layer sh xs w (cell sh a b c) ≡ layer sh ys w (cell sh a b c))
        → (b : ℕ) → b < sh.l2 → layer sh xs w (cell sh a b c) ≡ layer sh ys w (cell sh a b c)
    along-axis2 a c q t same b g =
        rw (axis2-cell sh a c b) at (line-agrees _ _ _ w (along (axis2 a c q t)) h (λ i m. rw (axis2-cell sh a c i) (same i m)) b g)

    along-axis3 : (a b : ℕ) → a < sh.l1 → b < sh.l2
        → ((c : ℕ) → c < sh.l3 - 2 → layer sh xs w (cell sh a b c) ≡ layer sh ys w (cell sh a b c))
        → (c : ℕ) → c < sh.l3 → layer sh xs w (cell sh a b c) ≡ layer sh ys w (cell sh a b c)
    along-axis3 a b q t same c g =
        rw (axis3-cell sh a b c) at (line-agrees _ _ _ w (along (axis3 a b q t)) h (λ i m. rw (axis3-cell sh a b i) (same i m)) c g)

  -- only one code cube has a given data string
  pub code-cube-unique : (ds : List ℕ) → HoldsData sh xs ds → HoldsData sh ys ds → xs ≡ ys
  code-cube-unique ds hx hy =
      cells_ext sh xs ys (omega (arith, valid.l1_low)) (omega (arith, valid.l2_low)) valid.w_low cx.size cy.size
      (λ a b c w la lb lc lw.
      along-axis3 w lw a b la lb
      (λ c' lc'.
      along-axis2 w lw a c' la (omega arith)
      (λ b' lb'.
      along-axis1 w lw b' c' (omega arith) (omega arith)
      (λ a' la'. sym (hx.bytes a' b' c' w la' lb' lc' lw) ∙ hy.bytes a' b' c' w la' lb' lc' lw) a la) b lb) c lc)
