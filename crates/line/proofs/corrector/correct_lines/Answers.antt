-- `line::corrector::correct_lines` corrects the lines of a block, one a turn.
use mathlib.Core.Path.{sym, ap, ◌∙◌}
use Prim.Native.Nat.{ℕ}
use native.Mathlib.Omega.{arith}
use Rattle.line.specs.Line.{syndrome0, syndrome1}
use Rattle.line.proofs.Parts.{changed-none, changed-more, changed-all, line-later, inside-size}
use Rattle.line.proofs.Correction.{corrected-changed, changed-corrected}
use Rattle.line.proofs.corrector.correct_lines.Goals as goal
use Rattle.line.proofs.corrector.correct_lines.Goals.{Start}

pub loop-t-init : goal.loop-t-init
loop-t-init g c = changed-none _ _ _ _

pub correct_line-requires : goal.correct_line-requires
correct_line-requires g c =
    let start = (goal.at.correct_line-requires g c).Start in
    let line = line-later _ _ _ _ c.loop-t.invariant (omega (arith, start.requires.0.apart)) c.loop-t.t (omega arith) (omega (arith, start.requires.0.apart)) in (
      inside-size start.requires.0 c.loop-t.invariant.size,
      omega arith,
      c.syndromes.ensures.first _ (omega arith) ∙ ap (λ (c : ℕ → ℕ). syndrome0 c start.args.run.len) (sym line),
      c.syndromes.ensures.second _ (omega arith) ∙ ap (λ (c : ℕ → ℕ). syndrome1 start.args.reduction c start.args.run.len) (sym line),
    )

pub loop-t-preserved : goal.loop-t-preserved
loop-t-preserved g c =
    changed-more _ _ _ _ 1 (omega arith) c.requires.0.apart c.loop-t.invariant (corrected-changed c.correct_line.ensures)

pub returns : goal.returns
returns g c = changed-corrected (changed-all _ _ _ _ _ _ (omega arith) c.loop-t.invariant)
