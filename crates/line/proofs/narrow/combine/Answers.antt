-- `line::narrow::combine` writes both erasures of the first lines of a strip from their syndromes.
use mathlib.Core.Path.{refl}
use Prim.Native.Nat.{ℕ, ◌+◌, ◌*◌, ◌<◌, ◌≤◌}
use native.Mathlib.Omega.{arith}
use lib.ListN.{length}
use Rattle.line.proofs.Solving.{copied-combined}
use Rattle.line.proofs.narrow.combine.Goals as goal
use Rattle.line.proofs.narrow.combine.Goals.{Start}

place :
    (c : Start) (i : ℕ) → i < c.args.run.len →
    c.args.run.first + c.args.run.stride * i + c.args.run.width ≤ length c.args.s.now
place c i h = c.requires.0.0.fits i h

pub returns : goal.returns
returns c =
    let start = (goal.at.returns c).Start in
    let y = c.products-y.ensures in
    let x = c.sums-x.ensures in
    let first = (c.copy.ensures.done (omega (arith, x.size, start.requires.1), place start start.args.e.j (omega arith))).1 in
    let second = (c.copy-2.ensures.done (omega (arith, y.size, start.requires.1), omega (arith, place start start.args.e.k start.requires.0.2, first.kept.size))).1 in
    copied-combined refl start.requires.1 start.requires.0.0.apart y x first second
