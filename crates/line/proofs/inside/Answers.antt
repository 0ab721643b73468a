-- `line::inside` decides whether a run lies inside: the last place does exactly when the stride is at most the quotient.
use Prim.Native.Nat.{◌-◌, ◌≤◌}
use native.Mathlib.Omega.{arith}
use Rattle.span.proofs.Decision.{decides-le}
use Rattle.line.proofs.Geometry.{inside-last, inside-quotient, quotient-inside}
use Rattle.line.proofs.inside.Goals as goal

pub returns-else-run-eq1 : goal.returns-else-run-eq1
returns-else-run-eq1 c =
    let run = c.args.run in
    let n = c.args.n in
    let some : 1 ≤ run.len = grind arith in
    let few : run.len ≤ 255 = grind arith in
    let apart : run.width ≤ run.stride = grind arith in
    let one : run.width ≤ n = grind arith in
    let first : run.first ≤ n - run.width = grind arith in
    decides-le _ _ (quotient-inside _ _ (omega arith))
    (λ q. inside-last _ _ (omega arith) (omega arith) (omega arith) (inside-quotient _ _ (omega arith) (omega arith) q))
