-- A step over the blocks of a run.
use native.Mathlib.Omega.{arith}
use mathlib.Core.Path.{refl}
use Rattle.line.proofs.block.BlocksIterator.next.Goals as goal

pub overflow_add-self : goal.overflow_add-self
overflow_add-self c = omega (arith, c.block_after-b.ensures.within, c.requires)

pub returns-clause-steps : goal.returns-clause-steps
returns-clause-steps c = record { block = c.block_after-b.ensures; run = refl; done = refl }

pub returns-clause-goes : goal.returns-clause-goes
returns-clause-goes c =
    record { on = λ f. (c.requires, tt, omega (arith, c.block_after-b.ensures.some_line, c.block_after-b.ensures.within)); keeps = c.requires; rests = λ f. tt }
