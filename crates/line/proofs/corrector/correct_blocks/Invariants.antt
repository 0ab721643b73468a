-- `line::corrector::correct_blocks` corrects the lines of a run, block by block.
use mathlib.Core.Path.{◌≡◌}
use Prim.Native.Nat.{◌≤◌}
use Rattle.line.specs.Inner.Block.{front}
use Rattle.line.proofs.Parts.{Changed}
use Rattle.line.proofs.Correction.{Below, Mended}
use Rattle.line.proofs.corrector.correct_blocks.Given as goal

abbrev pub invariant-loop-b : goal.invariant-loop-b
invariant-loop-b l =
    record {
      can : (goal.iterator-loop-b).can_next l.b-iterator;
      finite : (goal.iterator-loop-b).is_finite l.b-iterator;
      run : l.b-iterator.run ≡ l.fn.run;
      within : l.b-iterator.done ≤ l.fn.run.width;
      mended : Changed Below (Mended l.reduction) (front l.fn.run l.b-iterator.done) l.initial.s l.s;
    }
