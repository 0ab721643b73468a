-- `rows::codewords` decides whether all rows are right, in strips where they are narrow and many, else one by one.
use Prim.Native.Nat.{◌-◌}
use native.Mathlib.Omega.{arith}
use Rattle.span.proofs.Decision.{decides-no, decides-false}
use Rattle.rows.proofs.Moving.{row-begins}
use Rattle.rows.proofs.codewords.Goals as goal

pub returns-then-not-reaches : goal.returns-then-not-reaches
returns-then-not-reaches c =
    let count = c.args.count in
    decides-no
    (λ h. decides-false c.reaches.ensures c.if-not-reaches.true (omega (arith, row-begins _ _ _ (count - 1) (h (count - 1) (omega arith)).inside)))
