-- The sizes of the rows and planes of a valid shape fit a word.
use Prim.Native.Nat.{◌*◌, ◌-◌, ◌≤◌}
use native.Mathlib.Nat.{mul-le-mul}
use native.Mathlib.Omega.{arith}
use Rattle.shape.specs.declared.Shape.{Shape}
use Rattle.shape.specs.Shapes.{Valid}

pub record Small (sh : Shape) : Type 0 where
  pub row : sh.l1 * sh.w ≤ 261120
  pub plane_cells : sh.l1 * sh.l2 ≤ 65025
  pub plane : sh.l1 * sh.l2 * sh.w ≤ 66585600
  pub data_row : (sh.l1 - 2) * sh.w ≤ 261120
  pub data_plane_cells : (sh.l1 - 2) * (sh.l2 - 2) ≤ 65025
  pub data_plane : (sh.l1 - 2) * (sh.l2 - 2) * sh.w ≤ 66585600

pub small : (sh : Shape) → Valid sh → Small sh
small sh v =
    let a : sh.l1 - 2 ≤ 255 = omega arith in
    let b : sh.l2 - 2 ≤ 255 = omega arith in
    record {
      row = mul-le-mul v.l1_high v.w_high;
      plane_cells = mul-le-mul v.l1_high v.l2_high;
      plane = mul-le-mul (mul-le-mul v.l1_high v.l2_high) v.w_high;
      data_row = mul-le-mul a v.w_high;
      data_plane_cells = mul-le-mul a b;
      data_plane = mul-le-mul (mul-le-mul a b) v.w_high;
    }
