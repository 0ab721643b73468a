-- `line::strips::solve` writes both erasures of 64 lines from their syndromes.
use native.Mathlib.Omega.{arith}
use Rattle.line.proofs.Parts.{roomy-inside}
use Rattle.line.proofs.strips.solve.Goals as goal

pub syndromes-sums-requires : goal.syndromes-sums-requires
syndromes-sums-requires c =
    let pre = c.requires in
    (roomy-inside pre.0 (omega (arith, pre.1)), omega (arith, pre.1))
