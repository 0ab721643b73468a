-- `text::lines::pairs` meets its contract: the fold joins the differences of all windows.
use mathlib.Core.Path.{◌≡◌, ap, ◌∙◌}
use Prim.Native.Nat.{ℕ, ◌+◌, ◌-◌, ◌*◌}
use native.Mathlib.Omega.{arith}
use lib.Bits.{bit_or}
use lib.ListN.{take, drop, length-drop}
use lib.Seq.{length-take-le}
use Rattle.std.proofs.Common.{rules, tests}
use Rattle.std.proofs.lemmas.Iterator.Consumers.{fold_from_yields_List}
use Rattle.span.proofs.Decision.{decides-true}
use Rattle.text.proofs.Differences.{difference, windows-give, pairs-told}
use Rattle.text.proofs.lines.pairs.Goals as goal

pub returns : goal.returns
unfolding difference
returns c =
    let t = c.args.text.now in
    let at = c.args.at in
    let n = 3 * c.args.w in
    let line = take n (drop at t) in
    let size : at + n - at ≡ n = omega arith in
    let windows =
    windows-give c.windows-fours.result line (n - 3) c.windows-fours.ensures.size
    (c.windows-fours.ensures.rest ∙ ap (λ (m : ℕ). take m (drop at t)) size)
    (omega (arith, c.requires.1, length-drop at t, length-take-le n (drop at t) (omega (arith, c.requires.1, length-drop at t)))) in
    pairs-told t at c.args.w _ (omega (arith, c.requires.1)) (decides-true c.pair.ensures c.if-not-pair.false) (omega arith)
    (fold_from_yields_List _ (λ b x. bit_or b x) _ _ c.fold.ensures.ran windows (λ b x r q k. search (rules, tests)))
