-- `line::narrow::roomy` tests whether all 64 bytes of the last place lie inside; then so do those of every place.
use Prim.Native.Nat.{◌+◌, ◌-◌, ◌*◌}
use native.Mathlib.Omega.{arith}
use borrow.Author.Tests.{leb-true}
use Rattle.line.proofs.Parts.{roomy-last}
use Rattle.line.proofs.narrow.roomy.Goals as goal
use Rattle.line.proofs.narrow.roomy.Goals.{Start}

pub returns-then-run-ge6 : goal.returns-then-run-ge6
returns-then-run-ge6 c =
    let start = (goal.at.returns-then-run-ge6 c).Start in
    let run = start.args.run in
    λ e. roomy-last run
    (omega
    (arith, leb-true 64 (start.args.n - (run.first + run.stride * (run.len - 1))) e, start.requires.fits (run.len - 1) (omega (arith, start.requires.some_place))))
