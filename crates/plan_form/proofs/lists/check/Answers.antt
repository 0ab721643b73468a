-- `plan_form::lists::check` meets its contract: section by section, each once those before it have passed.
use mathlib.Core.Path.{refl}
use Prim.Native.Nat.{ℕ}
use native.Mathlib.Omega.{arith}
use Rattle.plan_form.proofs.Judging.{handed-broken}
use Rattle.plan_form.proofs.InLists.{closures-broken-listed, fibres-broken-listed, fibres-kept-listed, few-listed, plan-judged}
use Rattle.plan_form.proofs.lists.check.Goals as goal

pub returns-in_err-passed : goal.returns-in_err-passed
returns-in_err-passed c =
    let (l, e) = c.in_err-passed.ensures in
    handed-broken _ _ _ _ _ _ _ c.from_residual.ensures.1 e refl (closures-broken-listed _ _ _ c.listed-c.ensures c.kept.ensures l)

pub returns-in_err-passed-2 : goal.returns-in_err-passed-2
returns-in_err-passed-2 c =
    let (l, e) = c.in_err-passed-2.ensures in
    handed-broken _ _ _ _ _ _ _ c.from_residual-in_err-passed-2.ensures.1 e refl
    (fibres-broken-listed _ _ _ c.listed-c.ensures c.kept.ensures c.in_ok-passed.ensures c.listed-f.ensures c.kept-2.ensures l)

pub overflow_add-third-2 : goal.overflow_add-third-2
overflow_add-third-2 c =
    omega (
      arith,
      few-listed _ _ c.args.splices.now c.listed-c.ensures c.kept.ensures c.in_ok-passed.ensures c.listed-f.ensures c.kept-2.ensures c.in_ok-passed-2.ensures
          (λ (i : ℕ). omega (arith, c.type_inv.closures i)) (λ (i : ℕ). omega (arith, c.type_inv.fibres i)),
    )

pub kept-requires-3 : goal.kept-requires-3
kept-requires-3 c =
    fibres-kept-listed _ _ c.args.splices.now c.listed-c.ensures c.kept.ensures c.in_ok-passed.ensures c.listed-f.ensures c.kept-2.ensures c.in_ok-passed-2.ensures

pub passed-requires-3 : goal.passed-requires-3
passed-requires-3 c l =
    omega (
      arith,
      few-listed _ _ c.args.splices.now c.listed-c.ensures c.kept.ensures c.in_ok-passed.ensures c.listed-f.ensures c.kept-2.ensures c.in_ok-passed-2.ensures
          (λ (i : ℕ). omega (arith, c.type_inv.closures i)) (λ (i : ℕ). omega (arith, c.type_inv.fibres i)),
      c.listed-s.ensures,
    )

pub returns : goal.returns
returns c =
    plan-judged _ _ _ c.listed-c.ensures c.kept.ensures c.in_ok-passed.ensures c.listed-f.ensures c.kept-2.ensures c.in_ok-passed-2.ensures
    c.listed-s.ensures c.kept-3.ensures c.passed-3.result c.passed-3.ensures
