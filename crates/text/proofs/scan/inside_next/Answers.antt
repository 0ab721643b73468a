-- `text::scan::inside_next` meets its contract.
use native.Mathlib.Omega.{arith}
use mathlib.Core.Logic.{inl, inr}
use Rattle.text.specs.Inner.Scan.{one_before, this_one, none_yet}
use Rattle.text.proofs.scan.inside_next.Goals as goal

pub returns-then-c-sh : goal.returns-then-c-sh
returns-then-c-sh c = none_yet (omega arith) (omega arith) (omega arith) (omega arith)

pub returns-else-inside-n : goal.returns-else-inside-n
returns-else-inside-n c =
    elim c.else-inside-n.either [
      | inl third ↦ this_one (omega arith) (λ p q r. omega arith)
      | inr one ↦ elim one [
        | inl second ↦ this_one (omega arith) (λ p q r. omega arith)
        | inr two ↦ elim two [
          | inl first ↦ this_one (omega arith) (λ p q r. omega arith)
          | inr before ↦ one_before (omega arith)
        ]
      ]
    ]
