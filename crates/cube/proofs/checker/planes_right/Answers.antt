-- `cube::checker::planes_right` meets its contract: the planes' rows are all rows, and their columns all columns. Assumes nothing.
use Prim.Native.Nat.{ℕ, ◌<◌}
use native.Mathlib.Omega.{arith}
use native.Mathlib.Nat.{mul_comm}
use Rattle.std.proofs.Common.{rules}
use Rattle.span.proofs.Decision.{decides_all, decides-map}
use Rattle.shape.specs.Shapes.{lines_of}
use Rattle.cube.specs.Inner.Checker.{PlaneRight}
use Rattle.cube.proofs.RightLines.{right-fewer, right-stretches, rows-blocks, columns-blocks}
use Rattle.cube.proofs.checker.planes_right.Goals as goal

pub returns : goal.returns
unfolding lines_of
returns c =
    let sh = c.args.sh in
    decides-map
    (λ (h : (k : ℕ) → k < sh.l3 → PlaneRight c.args.reduction sh k c.args.cube.now). (
      right-fewer _ _ _ _ _ _ _ _ (omega arith) (omega (arith, mul_comm sh.l2 sh.l3)) (right-stretches _ _ _ _ sh.l3 sh.l2 (λ k l. (h k l).rows)),
      right-fewer _ _ _ _ _ _ _ _ (omega arith) (omega (arith, mul_comm sh.l1 sh.l3)) (right-stretches _ _ _ _ sh.l3 sh.l1 (λ k l. (h k l).columns)),
    ))
    (λ h k l.
    record {
      rows = right-fewer _ _ _ _ _ _ _ _ (omega arith) (rows-blocks sh k l).within h.0;
      columns = right-fewer _ _ _ _ _ _ _ _ (omega arith) (columns-blocks sh k l).within h.1;
    })
    (decides_all _ _ _ _ _ c.all.ensures.ran (λ x b q k. search rules))
