-- `rows::by_strips` decides whether the lines of all rows are codewords, 64 rows at a time.
use Prim.Native.Nat.{ℕ, ◌+◌, ◌-◌, ◌≤◌}
use native.Mathlib.Omega.{arith}
use Rattle.span.specs.Decision.{Decides}
use Rattle.span.proofs.Decision.{decides-no, decides-map, decides-false, decides-true}
use Rattle.rows.specs.Inner.{RowsRight}
use Rattle.rows.proofs.Moving.{gaps-below, inside-strip, row-begins, rows-strip, rows_more}
use Rattle.rows.proofs.by_strips.Goals as goal
use Rattle.rows.proofs.by_strips.Goals.{After-strip_of_rows-2, else-loop-from-test, then-loop-from-test+else-not-strip_of_rows+else-last-from-gt64}

pub overflow_mul-gap : goal.overflow_mul-gap
overflow_mul-gap c =
    omega (arith, row-begins _ _ _ _ c.requires.1, gaps-below c.args.gap c.loop-from.from (c.args.count - 1) (omega arith))

pub moved-requires : goal.moved-requires
moved-requires c =
    omega (arith, row-begins _ _ _ _ c.requires.1, gaps-below c.args.gap c.loop-from.from (c.args.count - 1) (omega arith))

pub strip_of_rows-requires : goal.strip_of_rows-requires
strip_of_rows-requires c = rw c.moved.ensures (inside-strip _ _ _ _ _ c.requires.1 (omega arith))

pub returns-then-not-strip_of_rows : goal.returns-then-not-strip_of_rows
returns-then-not-strip_of_rows c =
    decides-no
    (λ h. decides-false (rw c.moved.ensures at c.strip_of_rows.ensures) c.if-not-strip_of_rows.true (rows-strip _ _ _ _ _ _ (omega arith) h))

pub loop-from-preserved : goal.loop-from-preserved
loop-from-preserved c = (
  omega arith,
  rows_more _ _ _ _ _ _ _ (omega arith) (omega arith) c.loop-from.invariant.1
      (decides-true (rw c.moved.ensures at c.strip_of_rows.ensures) c.if-not-strip_of_rows.false),
)

pub overflow_mul-gap-2 : goal.overflow_mul-gap-2
overflow_mul-gap-2 c =
    omega (arith, row-begins _ _ _ _ c.requires.1, gaps-below c.args.gap (c.args.count - 64) (c.args.count - 1) (omega arith))

pub moved-requires-2 : goal.moved-requires-2
moved-requires-2 c =
    omega (arith, row-begins _ _ _ _ c.requires.1, gaps-below c.args.gap (c.args.count - 64) (c.args.count - 1) (omega arith))

pub strip_of_rows-requires-2 : goal.strip_of_rows-requires-2
strip_of_rows-requires-2 c = rw c.moved-2.ensures (inside-strip _ _ _ _ _ c.requires.1 (omega arith))

-- the rows from the last 64 on, behind those that are done
rest :
    (c : After-strip_of_rows-2) (done : ℕ) → c.args.count - 64 ≤ done → RowsRight c.args.reduction c.args.run c.args.gap 0 done c.args.s.now →
    Decides (RowsRight c.args.reduction c.args.run c.args.gap 0 c.args.count c.args.s.now) c.strip_of_rows-2.result
rest c done le before =
    decides-map (rows_more _ _ _ _ done (c.args.count - 64) c.args.count le (omega arith) before) (rows-strip _ _ _ _ _ _ (omega arith))
    (rw c.moved-2.ensures at c.strip_of_rows-2.ensures)

pub returns : goal.returns
returns c =
    elim c.loop-from-test.branch [
      | else-loop-from-test w ↦ rest c c.loop-from.from (omega arith) c.loop-from.invariant.1
      | then-loop-from-test+else-not-strip_of_rows+else-last-from-gt64 w ↦
          rest c (c.loop-from.from + 64) (omega arith)
          (rows_more _ _ _ _ c.loop-from.from c.loop-from.from (c.loop-from.from + 64) (omega arith) (omega arith) c.loop-from.invariant.1
          (decides-true (rw w.moved.ensures at w.strip_of_rows.ensures) w.if-not-strip_of_rows.false))
    ]
