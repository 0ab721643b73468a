-- `rows::strip_of_rows` decides whether the lines of 64 rows are codewords, byte after byte of their width.
use native.Mathlib.Omega.{arith}
use borrow.Author.Tests.{tests}
use Rattle.std.proofs.Common.{rules}
use Rattle.std.proofs.lemmas.Iterator.{serves_from_Range}
use Rattle.span.proofs.Decision.{decides_all, decides-map}
use Rattle.rows.proofs.Moving.{within-lanes, row-begins, lanes-rows, rows-lanes}
use Rattle.rows.proofs.strip_of_rows.Goals as goal

pub all-requires-clause-callable : goal.all-requires-clause-callable
all-requires-clause-callable c =
    serves_from_Range (λ x q k. search (rules, tests))
    (λ t low high. (
      (λ _ _ _ _ _ size _ _ _ _. omega (arith, size, row-begins _ _ _ _ c.requires)),
      (λ _ _ _ _ _ _ _ _ _ moved _ _. rw moved.ensures (within-lanes _ _ _ _ c.requires high)),
    ))

pub returns : goal.returns
returns c =
    decides-map (lanes-rows _ _ _ _) (λ all t below. rows-lanes _ _ _ _ t below all)
    (decides_all _ _ _ _ _ c.all.ensures.ran (λ t b q k. search rules))
