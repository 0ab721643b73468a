-- `line::block::solve_blocks` writes both erasures of each line of a run, block by block.
use mathlib.Core.Path.{◌≡◌}
use Prim.Native.Nat.{◌≤◌}
use Rattle.line.specs.Inner.Block.{front}
use Rattle.line.proofs.Parts.{Changed}
use Rattle.line.proofs.Solving.{Erased, ErasuresFilled}
use Rattle.line.proofs.block.solve_blocks.Given as goal

abbrev pub invariant-loop-b : goal.invariant-loop-b
invariant-loop-b l =
    record {
      can : (goal.iterator-loop-b).can_next l.b-iterator;
      finite : (goal.iterator-loop-b).is_finite l.b-iterator;
      run : l.b-iterator.run ≡ l.fn.run;
      within : l.b-iterator.done ≤ l.fn.run.width;
      filled : Changed (Erased l.e.j l.e.k) (ErasuresFilled l.reduction l.e) (front l.fn.run l.b-iterator.done) l.initial.s l.s;
    }
