-- `text::numbers::number` meets its contract: the digits up to `end` are those of v.
use native.Mathlib.Omega.{arith}
use mathlib.Core.Logic.{inl, inr}
use Rattle.text.proofs.Reading.{digit-some, digit-none, reading-first, reading-more, reading-found, zero-found, nothing-found}
use Rattle.text.proofs.numbers.number.Goals as goal

pub returns-in_err-first : goal.returns-in_err-first
returns-in_err-first c = rw c.from_residual.ensures (nothing-found _ _ (digit-none _ c.digit.ensures c.in_err-first.was))

pub returns-then-first-eq0 : goal.returns-then-first-eq0
returns-then-first-eq0 c = zero-found _ _ _ (digit-some _ _ c.digit.ensures c.in_ok-first.was) (omega arith)

pub loop-v-init : goal.loop-v-init
loop-v-init c = reading-first _ _ _ (digit-some _ _ c.digit.ensures c.in_ok-first.was) (omega arith)

pub returns-in_default : goal.returns-in_default
returns-in_default c = reading-found _ _ _ _ c.loop-v.invariant (inl (digit-none _ c.digit-in-loop-v.ensures c.in_default.is))

pub loop-v-preserved : goal.loop-v-preserved
loop-v-preserved c = reading-more _ _ _ _ _ c.loop-v.invariant (omega arith) (digit-some _ _ c.digit-in-loop-v.ensures c.in-Some.is)

pub returns : goal.returns
returns c = reading-found _ _ _ _ c.loop-v.invariant (inr (inl (omega arith)))
