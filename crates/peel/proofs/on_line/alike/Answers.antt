-- `peel::on_line::alike` counts neighbouring lines that miss the same places.
use Prim.Native.Nat.{◌+◌, ◌≤◌}
use native.Mathlib.Omega.{arith}
use borrow.Author.Tests.{tests}
use Rattle.std.proofs.Common.{rules}
use Rattle.std.proofs.lemmas.Iterator.{first_from_Range}
use Rattle.shape.specs.Flags.{missing}
use Rattle.erasures.specs.Erasures.{Scanned}
use Rattle.peel.proofs.Lines.{alike-found}
use Rattle.peel.proofs.on_line.alike.Goals as goal

pub returns : goal.returns
returns c =
    rw c.unwrap_or.ensures
    (alike-found _ c.requires.le_most.0 c.requires.le_most.1 c.requires.le_most.2 c.requires.scanned
    (first_from_Range _ _ _ _ (λ n. n ≤ n)
    (λ n. Scanned (missing c.args.flags.now) (c.args.line.first + n) c.args.line.stride c.args.line.len c.args.e.count c.args.e.first c.args.e.last)
    c.find.ensures.ran (λ n q k. omega arith) (λ n q k. search (rules, tests))))
