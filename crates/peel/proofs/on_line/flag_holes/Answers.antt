-- `peel::on_line::flag_holes` gives the missing cells of neighbouring lines flag 3, line after line.
use mathlib.Core.Path.{◌≡◌, ap, ◌∙◌}
use Prim.Native.Nat.{◌+◌, ◌*◌, ◌<◌}
use native.Mathlib.Omega.{arith}
use lib.ListN.{length, length-set}
use Rattle.shape.specs.Shapes.{cells}
use Rattle.shape.proofs.Geometry.{line-cell-lt}
use Rattle.peel.proofs.Visiting.{flagged-more}
use Rattle.peel.proofs.on_line.flag_holes.Goals as goal
use Rattle.peel.proofs.on_line.flag_holes.Goals.{In-loop-q}

first_cell : (c : In-loop-q) → c.args.line.first + c.loop-q.q + c.args.line.stride * c.args.e.first < cells c.args.sh
first_cell c =
    line-cell-lt _ _ _ _ _ (c.requires.neighbours.each c.loop-q.q (omega arith)) (omega (arith, c.requires.first_le_last))

last-cell : (c : In-loop-q) → c.args.line.first + c.loop-q.q + c.args.line.stride * c.args.e.last < cells c.args.sh
last-cell c = line-cell-lt _ _ _ _ _ (c.requires.neighbours.each c.loop-q.q (omega arith)) c.requires.first_le_last.1

flags_size : (c : In-loop-q) → length c.loop-q.flags ≡ cells c.args.sh
flags_size c = c.loop-q.invariant.flags ∙ c.requires.valid.1

small : (c : In-loop-q) → cells c.args.sh < 18446744073709551616
small c = omega (arith, c.requires.valid.1)

pub overflow_add-first : goal.overflow_add-first
overflow_add-first c = omega (arith, first_cell (goal.at.overflow_add-first c).In-loop-q, small (goal.at.overflow_add-first c).In-loop-q)

pub overflow_mul-line : goal.overflow_mul-line
overflow_mul-line c = omega (arith, first_cell (goal.at.overflow_mul-line c).In-loop-q, small (goal.at.overflow_mul-line c).In-loop-q)

pub overflow_add-first-in-loop-q : goal.overflow_add-first-in-loop-q
overflow_add-first-in-loop-q c = omega (arith, first_cell (goal.at.overflow_add-first-in-loop-q c).In-loop-q, small (goal.at.overflow_add-first-in-loop-q c).In-loop-q)

pub flag_hole-requires : goal.flag_hole-requires
flag_hole-requires c = (c.requires.valid.0, first_cell (goal.at.flag_hole-requires c).In-loop-q, flags_size (goal.at.flag_hole-requires c).In-loop-q)

pub overflow_mul-line-in-loop-q : goal.overflow_mul-line-in-loop-q
overflow_mul-line-in-loop-q c = omega (arith, last-cell (goal.at.overflow_mul-line-in-loop-q c).In-loop-q, small (goal.at.overflow_mul-line-in-loop-q c).In-loop-q)

pub overflow_add-first-in-loop-q-2 : goal.overflow_add-first-in-loop-q-2
overflow_add-first-in-loop-q-2 c = omega (arith, last-cell (goal.at.overflow_add-first-in-loop-q-2 c).In-loop-q, small (goal.at.overflow_add-first-in-loop-q-2 c).In-loop-q)

pub flag_hole-requires-in-loop-q : goal.flag_hole-requires-in-loop-q
flag_hole-requires-in-loop-q c = (
  c.requires.valid.0,
  last-cell (goal.at.flag_hole-requires-in-loop-q c).In-loop-q,
  ap length c.flag_hole.ensures.flags_after ∙ simp length-set (flags_size (goal.at.flag_hole-requires-in-loop-q c).In-loop-q),
)

pub loop-q-preserved : goal.loop-q-preserved
loop-q-preserved c =
    let here = (goal.at.loop-q-preserved c).In-loop-q in
    flagged-more c.loop-q.invariant (omega (arith, first_cell here, flags_size here)) (omega (arith, last-cell here, flags_size here))
    c.flag_hole.ensures.woken c.flag_hole-in-loop-q.ensures.woken c.flag_hole.ensures.flags_after c.flag_hole-in-loop-q.ensures.flags_after
