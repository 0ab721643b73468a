-- `plan_form::reading::measure` meets its contract: section by section, each once those before it have passed.
use mathlib.Core.Path.{refl}
use Rattle.plan_form.proofs.Judging.{refused-broken, handed-broken, closure-count-cut}
use Rattle.plan_form.proofs.InFile.{closures-broken-at, fibre-count-cut-at, fibres-broken-at, fibres-kept-at, splice-count-cut-at, splices-broken-at, left-over-at, plan-measured-at}
use Rattle.plan_form.proofs.reading.measure.Goals as goal

pub returns-in_err-c : goal.returns-in_err-c
returns-in_err-c c =
    handed-broken _ _ _ _ _ _ _ c.from_residual.ensures.1 c.in_err-c.ensures.1 refl (closure-count-cut _ _ c.in_err-c.ensures.0)

pub returns-in_err-passed : goal.returns-in_err-passed
returns-in_err-passed c =
    let (l, e) = c.in_err-passed.ensures in
    handed-broken _ _ _ _ _ _ _ c.from_residual-in_err-passed.ensures.1 e refl
    (closures-broken-at _ _ _ _ _ c.in_ok-c.ensures c.whole.ensures c.kept.ensures l)

pub returns-in_err-f : goal.returns-in_err-f
returns-in_err-f c =
    handed-broken _ _ _ _ _ _ _ c.from_residual-in_err-f.ensures.1 c.in_err-f.ensures.1 refl
    (fibre-count-cut-at _ _ _ _ _ c.in_ok-c.ensures c.whole.ensures c.kept.ensures c.in_ok-passed.ensures c.in_err-f.ensures.0)

pub returns-in_err-passed-2 : goal.returns-in_err-passed-2
returns-in_err-passed-2 c =
    let (l, e) = c.in_err-passed-2.ensures in
    handed-broken _ _ _ _ _ _ _ c.from_residual-in_err-passed-2.ensures.1 e refl
    (fibres-broken-at _ _ _ _ _ c.in_ok-c.ensures c.whole.ensures c.kept.ensures c.in_ok-passed.ensures
    _ _ _ _ c.in_ok-f.ensures c.whole-2.ensures c.kept-2.ensures l)

pub returns-in_err-s : goal.returns-in_err-s
returns-in_err-s c =
    handed-broken _ _ _ _ _ _ _ c.from_residual-in_err-s.ensures.1 c.in_err-s.ensures.1 refl
    (splice-count-cut-at _ _ _ _ _ c.in_ok-c.ensures c.whole.ensures c.kept.ensures c.in_ok-passed.ensures
    _ _ _ _ c.in_ok-f.ensures c.whole-2.ensures c.kept-2.ensures c.in_ok-passed-2.ensures c.in_err-s.ensures.0)

pub kept-requires-3 : goal.kept-requires-3
kept-requires-3 c =
    fibres-kept-at _ _ _ _ _ c.in_ok-c.ensures c.whole.ensures c.kept.ensures c.in_ok-passed.ensures
    _ _ _ _ c.in_ok-f.ensures c.whole-2.ensures c.kept-2.ensures c.in_ok-passed-2.ensures

pub returns-in_err-passed-3 : goal.returns-in_err-passed-3
returns-in_err-passed-3 c =
    let (l, e) = c.in_err-passed-3.ensures in
    handed-broken _ _ _ _ _ _ _ c.from_residual-in_err-passed-3.ensures.1 e refl
    (splices-broken-at _ _ _ _ _ c.in_ok-c.ensures c.whole.ensures c.kept.ensures c.in_ok-passed.ensures
    _ _ _ _ c.in_ok-f.ensures c.whole-2.ensures c.kept-2.ensures c.in_ok-passed-2.ensures
    _ _ _ _ c.in_ok-s.ensures c.whole-3.ensures c.kept-3.ensures l)

pub returns-then-end-file : goal.returns-then-end-file
returns-then-end-file c =
    refused-broken _ _ _ _ _ _ c.broken.ensures refl
    (left-over-at _ _ _ _ _ c.in_ok-c.ensures c.whole.ensures c.kept.ensures c.in_ok-passed.ensures
    _ _ _ _ c.in_ok-f.ensures c.whole-2.ensures c.kept-2.ensures c.in_ok-passed-2.ensures
    _ _ _ _ c.in_ok-s.ensures c.whole-3.ensures c.kept-3.ensures c.in_ok-passed-3.ensures c.if-end-file.true)

pub returns : goal.returns
returns c =
    plan-measured-at _ _ _ _ _ c.in_ok-c.ensures c.whole.ensures c.kept.ensures c.in_ok-passed.ensures
    _ _ _ _ c.in_ok-f.ensures c.whole-2.ensures c.kept-2.ensures c.in_ok-passed-2.ensures
    _ _ _ _ c.in_ok-s.ensures c.whole-3.ensures c.kept-3.ensures c.in_ok-passed-3.ensures c.if-end-file.false
