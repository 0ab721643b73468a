-- `pack::reading::data_cells` meets its contract. Assumes nothing.
use mathlib.Core.Path.{refl}
use native.Mathlib.Omega.{arith}
use Rattle.shape.specs.Shapes.{data_cells}
use Rattle.shape.proofs.Valid.{area-le, volume-le, data-length-le}
use Rattle.pack.proofs.reading.data_cells.Goals as goal

pub overflow_sub-result : goal.overflow_sub-result
overflow_sub-result c = omega (arith, c.requires.l1_low)

pub overflow_sub-result-2 : goal.overflow_sub-result-2
overflow_sub-result-2 c = omega (arith, c.requires.l2_low)

pub overflow_mul-result : goal.overflow_mul-result
overflow_mul-result c =
    let v = c.requires in
    omega (arith, area-le _ _ (data-length-le _ v.l1_high) (data-length-le _ v.l2_high))

pub overflow_sub-result-3 : goal.overflow_sub-result-3
overflow_sub-result-3 c = omega (arith, c.requires.l3_low)

pub overflow_mul-result-2 : goal.overflow_mul-result-2
overflow_mul-result-2 c =
    let v = c.requires in
    omega (arith, volume-le _ _ _ (data-length-le _ v.l1_high) (data-length-le _ v.l2_high) (data-length-le _ v.l3_high))

pub returns : goal.returns
unfolding data_cells
returns c = refl
