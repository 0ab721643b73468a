-- `pack::reading::headed` meets its contract. Assumes nothing.
use mathlib.Core.Path.{sym, ◌∙◌}
use borrow.Author.Tests.{le-leb, lt-leb}
use Rattle.answer.specs.Refusals.{fault_number}
use Rattle.answer.specs.Values.{refusal, check, checked, and_then, value_of}
use Rattle.answer.proofs.Values.{then-refused, value-passed, value-refused, handed-on}
use Rattle.shape.proofs.Valid.{shape-passed}
use Rattle.pack.specs.Reading.{header_with, headed}
use Rattle.pack.proofs.Sound.{used-given}
use Rattle.pack.proofs.reading.headed.Goals as goal

pub returns-then-z-lt4 : goal.returns-then-z-lt4
unfolding headed value_of refusal fault_number check checked and_then
returns-then-z-lt4 c u given = rw (value-passed _ _ _ c.measure.ensures c.in_ok-z.was, lt-leb _ _ c.if-z-lt4.true)

pub data_cells-all-requires : goal.data_cells-all-requires
data_cells-all-requires c = (shape-passed _ _ (value-passed _ _ _ c.measure.ensures c.in_ok-z.was)).0

pub returns-then-not-in_use : goal.returns-then-not-in_use
unfolding headed value_of refusal fault_number check checked and_then
returns-then-not-in_use c u given =
    let all = c.data_cells-all.ensures in
    rw (
      value-passed _ _ _ c.measure.ensures c.in_ok-z.was,
      le-leb _ _ c.if-z-lt4.false,
      sym (used-given _ _ _ _ _ _ all given c.unwrap_or-used.ensures),
      sym all,
      sym c.in_use.ensures ∙ c.if-not-in_use.true,
    )

pub returns-in_err-z : goal.returns-in_err-z
unfolding headed
returns-in_err-z c u given =
    handed-on _ _ _ c.from_residual.ensures.1 (then-refused _ _ _ (value-refused _ _ _ c.measure.ensures c.in_err-z.was))

pub returns : goal.returns
unfolding headed header_with value_of refusal fault_number check checked and_then
returns c u given =
    let all = c.data_cells-all.ensures in
    let fits = value-passed _ _ _ c.measure.ensures c.in_ok-z.was in
    rw (
      fits,
      le-leb _ _ c.if-z-lt4.false,
      sym (used-given _ _ _ _ _ _ all given c.unwrap_or-used.ensures),
      sym all,
      sym c.in_use.ensures ∙ c.if-not-in_use.false,
      sym (shape-passed _ _ fits).1,
    )
