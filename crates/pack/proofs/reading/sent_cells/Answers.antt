-- `pack::reading::sent_cells` meets its contract. Assumes nothing.
use mathlib.Core.Path.{sym, ◌∙◌}
use native.Mathlib.Omega.{arith}
use Rattle.answer.specs.Refusals.{fault_number}
use Rattle.answer.specs.Values.{refusal, check, checked, and_then, value_of}
use Rattle.answer.proofs.Values.{then-refused, value-passed, value-refused, handed-on}
use Rattle.shape.proofs.Valid.{shape-passed, within-parts}
use Rattle.pack.specs.Reading.{sent_checked}
use Rattle.pack.proofs.Sent.{sent-counted, unsent-fit}
use Rattle.pack.proofs.reading.sent_cells.Goals as goal

pub returns-then-not-is_count : goal.returns-then-not-is_count
unfolding sent_checked value_of refusal fault_number check checked
returns-then-not-is_count c = rw (sym c.is_count.ensures ∙ c.if-not-is_count.true)

pub data_cells-all-requires : goal.data_cells-all-requires
data_cells-all-requires c = (shape-passed _ _ (value-passed _ _ _ c.measure.ensures c.in_ok-z.was)).0

pub returns-then-not-in_use : goal.returns-then-not-in_use
unfolding sent_checked value_of refusal fault_number check checked and_then
returns-then-not-in_use c =
    rw (
      sym c.is_count.ensures ∙ c.if-not-is_count.false,
      value-passed _ _ _ c.measure.ensures c.in_ok-z.was,
      sym c.data_cells-all.ensures,
      sym c.in_use.ensures ∙ c.if-not-in_use.true,
    )

pub overflow_sub-result : goal.overflow_sub-result
overflow_sub-result c = omega (arith, (within-parts 1 _ _ (sym c.in_use.ensures ∙ c.if-not-in_use.false)).1)

pub overflow_sub-result-2 : goal.overflow_sub-result-2
overflow_sub-result-2 c =
    let fits = value-passed _ _ _ c.measure.ensures c.in_ok-z.was in
    unsent-fit c.args.h _ (shape-passed _ _ fits).1 _ c.data_cells-all.ensures

pub returns-in_err-z : goal.returns-in_err-z
unfolding sent_checked check
returns-in_err-z c =
    handed-on _ _ _ c.from_residual.ensures.1
    (rw (sym c.is_count.ensures ∙ c.if-not-is_count.false) (then-refused _ _ _ (value-refused _ _ _ c.measure.ensures c.in_err-z.was)))

pub returns : goal.returns
unfolding sent_checked value_of check checked and_then
returns c =
    let fits = value-passed _ _ _ c.measure.ensures c.in_ok-z.was in
    let all = c.data_cells-all.ensures in
    rw (
      sym c.is_count.ensures ∙ c.if-not-is_count.false,
      fits,
      sym all,
      sym c.in_use.ensures ∙ c.if-not-in_use.false,
      sent-counted c.args.h _ (shape-passed _ _ fits).1 _ all,
    )
