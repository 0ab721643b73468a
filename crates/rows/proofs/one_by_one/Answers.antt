-- `rows::one_by_one` decides whether all rows are right, row after row.
use Prim.Native.Nat.{◌-◌}
use native.Mathlib.Omega.{arith}
use borrow.Author.Tests.{tests}
use Rattle.std.proofs.Common.{rules}
use Rattle.std.proofs.lemmas.Iterator.{serves_from_Range}
use Rattle.span.proofs.Decision.{decides_all}
use Rattle.rows.proofs.Moving.{gaps-below}
use Rattle.rows.proofs.one_by_one.Goals as goal

pub all-requires-clause-callable : goal.all-requires-clause-callable
all-requires-clause-callable c =
    serves_from_Range (λ x q k. search (rules, tests))
    (λ q low high.
    let before = gaps-below c.args.gap q (c.args.count - 1) (omega arith) in (
      (λ _ _ _ _ _ size _ _ _ _. omega (arith, size, before, c.requires)),
      (λ _ _ _ _ _ size _ _ _ _ _. omega (arith, size, before, c.requires)),
    ))

pub returns : goal.returns
returns c = decides_all _ _ _ _ _ c.all.ensures.ran (λ x b q k. search rules)
