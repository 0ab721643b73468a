-- `line::block::codeword_blocks` decides whether all lines of a run are codewords, block by block.
use native.Mathlib.Omega.{arith}
use Prim.Native.Nat.{◌+◌, ◌<◌}
use Rattle.std.proofs.Common.{rules}
use Rattle.line.proofs.Geometry.{inside-first}
use Rattle.line.proofs.Blocks.{blocks-served, covered, codewords-tested}
use Rattle.line.proofs.block.codeword_blocks.Goals as goal

pub all-requires-clause-callable : goal.all-requires-clause-callable
all-requires-clause-callable c =
    let small : c.args.run.first + c.args.run.width < 18446744073709551616 = omega (arith, inside-first _ _ c.requires) in
    blocks-served (λ x q k. search rules) (λ x a b. search (rules, small, covered c.requires (rw c.of.ensures.0 at b)))

pub returns : goal.returns
returns c =
    codewords-tested _ _ _ _ _ _ _ c.of.ensures.0 c.of.ensures.1 c.all.ensures.ran (λ x b q k. search rules)
