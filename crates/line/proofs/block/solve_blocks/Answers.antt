-- `line::block::solve_blocks` writes both erasures of each line of a run, block by block.
use native.Mathlib.Omega.{arith}
use mathlib.Core.Path.{◌∙◌}
use Rattle.line.proofs.Geometry.{inside-first}
use Rattle.line.proofs.Parts.{changed-none, changed-over, changed-all, cover-inside, cover-place, inside-size}
use Rattle.line.proofs.Solving.{written-changed, changed-written, filled-again}
use Rattle.line.proofs.block.solve_blocks.Goals as goal

pub loop-b-init : goal.loop-b-init
loop-b-init c =
    rw c.into_iter-b-iterator.ensures.into_iter_gives
    (record {
      can = rw c.of-b-items.ensures.0 (omega (arith, inside-first _ _ c.requires.0));
      finite = tt;
      run = c.of-b-items.ensures.0;
      within = omega arith;
      filled = rw c.of-b-items.ensures.1 (changed-none _ _ _ _);
    })

pub solve_block-requires : goal.solve_block-requires
solve_block-requires c =
    let inv = c.loop-b.invariant in
    let next = (c.widened.ensures _ (rw inv.run at c.in-Some.ensures.steps.block)).cover in
    ((cover-inside _ _ _ _ (inside-size c.requires.0 inv.filled.size) next, c.requires.1, cover-place _ _ _ _ next c.requires.2), next.few_lines)

pub loop-b-preserved : goal.loop-b-preserved
loop-b-preserved c =
    let inv = c.loop-b.invariant in
    let step = c.in-Some.ensures.steps in
    let block = rw inv.run at step.block in
    record {
      can = c.in-Some.ensures.goes.keeps;
      finite = tt;
      run = step.run ∙ inv.run;
      within = omega (arith, step.done, block.within);
      filled =
          rw step.done
          (changed-over _ _ _ (filled-again _ _) c.requires.0 (c.widened.ensures _ block) inv.filled (written-changed c.solve_block.ensures));
    }

pub returns : goal.returns
returns c =
    let inv = c.loop-b.invariant in
    changed-written (changed-all _ _ _ _ _ _ (omega (arith, inv.within, rw inv.run at c.in-None.ensures.steps)) inv.filled)
