-- `data::place::next_row` steps over the parity cells of a row, and over the parity rows of a plane. Assumes nothing.
use native.Mathlib.Omega.{arith}
use Rattle.shape.proofs.Bounds.{Small, small}
use Rattle.data.proofs.Placing.{standing-beside, standing-below}
use Rattle.data.proofs.place.next_row.Goals as goal
use Rattle.data.proofs.place.next_row.Goals.{Start}

sizes : (s : Start) → Small s.args.sh
sizes s = small s.args.sh s.requires.0

pub overflow_mul-width : goal.overflow_mul-width
overflow_mul-width c = omega (arith, sizes (goal.at.overflow_mul-width c).Start)

pub returns-then-b-sh : goal.returns-then-b-sh
returns-then-b-sh c = λ q h. standing-beside _ q _ c.requires.0 h c.if-b-sh.true

pub overflow_mul-result : goal.overflow_mul-result
overflow_mul-result c = omega (arith, sizes (goal.at.overflow_mul-result c).Start)

pub overflow_mul-result-2 : goal.overflow_mul-result-2
overflow_mul-result-2 c = omega (arith, sizes (goal.at.overflow_mul-result-2 c).Start)

pub overflow_add-result : goal.overflow_add-result
overflow_add-result c = omega (arith, sizes (goal.at.overflow_add-result c).Start)

pub returns : goal.returns
returns c = λ q h. standing-below _ q _ c.requires.0 h (omega arith)
