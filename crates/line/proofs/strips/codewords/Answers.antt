-- `line::strips::codewords` decides whether 64 lines are codewords: whether all syndromes are 0.
use native.Mathlib.Omega.{arith}
use Rattle.line.proofs.Parts.{roomy-inside}
use Rattle.line.proofs.strips.codewords.Goals as goal

pub syndromes-requires : goal.syndromes-requires
syndromes-requires c =
    let pre = c.requires in
    (roomy-inside pre.0 (omega (arith, pre.1)), omega (arith, pre.1))
