-- `line::corrector::correct_blocks` corrects the lines of a run, block by block.
use native.Mathlib.Omega.{arith}
use mathlib.Core.Path.{◌∙◌}
use Rattle.line.proofs.Geometry.{inside-first}
use Rattle.line.proofs.Parts.{changed-none, changed-next, changed-all, block-cover, cover-inside, inside-size}
use Rattle.line.proofs.Correction.{corrected-changed, changed-corrected}
use Rattle.line.proofs.corrector.correct_blocks.Goals as goal

pub loop-b-init : goal.loop-b-init
loop-b-init c =
    rw c.into_iter-b-iterator.ensures.into_iter_gives
    (record {
      can = rw c.of-b-items.ensures.0 (omega (arith, inside-first _ _ c.requires));
      finite = tt;
      run = c.of-b-items.ensures.0;
      within = omega arith;
      mended = rw c.of-b-items.ensures.1 (changed-none _ _ _ _);
    })

pub correct_block-requires : goal.correct_block-requires
correct_block-requires c =
    let inv = c.loop-b.invariant in
    let block = rw inv.run at c.in-Some.ensures.steps.block in
    (cover-inside _ _ _ _ (inside-size c.requires inv.mended.size) (block-cover block), block.few_lines)

pub loop-b-preserved : goal.loop-b-preserved
loop-b-preserved c =
    let inv = c.loop-b.invariant in
    let step = c.in-Some.ensures.steps in
    let block = rw inv.run at step.block in
    record {
      can = c.in-Some.ensures.goes.keeps;
      finite = tt;
      run = step.run ∙ inv.run;
      within = omega (arith, step.done, block.within);
      mended = rw step.done (changed-next _ _ _ c.requires block inv.mended (corrected-changed c.correct_block.ensures));
    }

pub returns : goal.returns
returns c =
    let inv = c.loop-b.invariant in
    changed-corrected (changed-all _ _ _ _ _ _ (omega (arith, inv.within, rw inv.run at c.in-None.ensures.steps)) inv.mended)
