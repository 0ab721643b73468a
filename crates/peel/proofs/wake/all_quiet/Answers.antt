-- `peel::wake::all_quiet` joins the tests of 32 marks, so that it answers true where each is that of a quiet group.
use mathlib.Core.Bool.{◌&&◌}
use Prim.Native.Nat.{◌+◌, ◌-◌}
use native.Mathlib.Omega.{arith}
use borrow.Author.Tests.{tests}
use lib.Dec.{eqb}
use lib.ListN.{take, drop}
use Rattle.std.proofs.Common.{rules}
use Rattle.std.proofs.lemmas.Iterator.{YieldsList-from_slice}
use Rattle.std.proofs.lemmas.Iterator.Consumers.{fold_from_yields_List}
use Rattle.peel.proofs.Awake.{part-quiet}
use Rattle.peel.proofs.wake.all_quiet.Goals as goal

pub returns : goal.returns
returns c e i l =
    let joined =
    fold_from_yields_List _ (λ b x. b && eqb x 71) _ _ c.fold.ensures.ran (YieldsList-from_slice (take (c.args.at + 32 - c.args.at) (drop c.args.at c.args.marks.now)) c.iter.ensures.rest)
    (λ b x r q k. search (rules, tests)) in
    part-quiet _ _ (c.args.at + 32 - c.args.at) _ joined e (omega (arith, c.told-marks, c.requires)) i (omega arith)
