-- The cube of given layers: its length and its places.
use mathlib.Core.Path.{◌≡◌, ap, ap₂, ◌∙◌}
use Prim.Native.Nat.{ℕ, ◌+◌, ◌*◌, ◌/◌, ◌%◌, ◌<◌}
use native.Mathlib.Nat.{mul_comm}
use lib.Arith.{digits_lt, digits_div, digits_mod}
use lib.ListN.{length}
use Rattle.shape.specs.declared.Shape.{Shape}
use Rattle.shape.specs.Shapes.{cells, cell}
use Rattle.shape.proofs.Geometry.{cell-lt-cells, first-coordinate, second-coordinate, third-coordinate}
use Rattle.data.specs.Data.{layer}
use Rattle.data.proofs.Tables.{length-tabulate, get_d_tabulate}
use Rattle.cube.specs.Encoded.{of_layers}

module _ (sh : Shape) (f : ℕ → ℕ → ℕ → ℕ → ℕ) where
  pub length-of_layers : length (of_layers sh f) ≡ sh.w * cells sh
  unfolding of_layers
  length-of_layers = length-tabulate _ _

  pub layer-of_layers : (w a b c : ℕ) → w < sh.w → a < sh.l1 → b < sh.l2 → c < sh.l3 → layer sh (of_layers sh f) w (cell sh a b c) ≡ f w a b c
  unfolding layer of_layers
  layer-of_layers w a b c lw la lb lc =
      get_d_tabulate (sh.w * cells sh) _ 0 (cell sh a b c * sh.w + w)
      (rw (mul_comm sh.w (cells sh)) (digits_lt (cell-lt-cells sh a b c la lb lc) lw))
      ∙ ap₂ (λ (n t : ℕ). f t (n % sh.l1) (n / sh.l1 % sh.l2) (n / (sh.l1 * sh.l2))) (digits_div (cell sh a b c) lw) (digits_mod (cell sh a b c) lw)
      ∙ ap₂ (λ (i j : ℕ). f w i j (cell sh a b c / (sh.l1 * sh.l2))) (first-coordinate sh a b c la) (second-coordinate sh a b c la lb)
      ∙ ap (f w a b) (third-coordinate sh a b c la lb)
