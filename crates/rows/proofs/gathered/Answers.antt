-- `rows::gathered` decides whether all rows are right: the last by itself, which shows that all lie inside, then strip by strip.
use Rattle.span.proofs.Decision.{decides-map, decides-true}
use Rattle.rows.proofs.Moving.{rows_all, all-rows}
use Rattle.rows.proofs.gathered.Goals as goal

pub returns-then-codewords : goal.returns-then-codewords
returns-then-codewords c =
    decides-map (rows_all _ _ _ _ _ (decides-true (rw c.moved.ensures at c.codewords.ensures) c.if-codewords.true).inside) (all-rows _ _ _ _ _)
    c.by_strips.ensures
