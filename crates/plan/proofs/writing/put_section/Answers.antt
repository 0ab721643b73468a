-- `plan::writing::put_section` meets its contract.
use native.Mathlib.Omega.{arith}
use Rattle.cursor.specs.Steps.{word_bytes}
use Rattle.plan.proofs.Beginning.{section-laid}
use Rattle.plan.proofs.writing.put_section.Goals as goal

pub returns : goal.returns
unfolding word_bytes
returns c =
    let bytes = c.count_bytes-bytes.ensures in
    let counted-there = (c.copy.ensures.done (rw bytes (omega arith), omega (arith, c.requires))).1 in
    section-laid _ _ _ bytes counted-there (c.copy-2.ensures.done (omega arith, omega (arith, c.requires, counted-there.kept.size))).1
