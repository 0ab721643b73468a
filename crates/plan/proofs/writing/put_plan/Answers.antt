-- `plan::writing::put_plan` meets its contract.
use native.Mathlib.Omega.{arith}
use mathlib.Core.Path.{refl}
use Prim.Native.Nat.{◌/◌}
use lib.ListN.{length}
use Rattle.plan.proofs.Beginning.{section-size, sections-put}
use Rattle.plan.proofs.writing.put_plan.Goals as goal

pub put_section-third-requires : goal.put_section-third-requires
put_section-third-requires c =
    let cs = c.args.plan.closures.now in
    let first = c.put_section-second.ensures in
    omega (arith, c.requires, first.put.kept.size, first.behind, section-size (length cs / 2) cs)

pub put_section-requires : goal.put_section-requires
put_section-requires c =
    let cs = c.args.plan.closures.now in
    let fs = c.args.plan.fibres.now in
    let first = c.put_section-second.ensures in
    let second = c.put_section-third.ensures in
    omega
    (arith, c.requires, first.put.kept.size, first.behind, second.put.kept.size, second.behind, section-size (length cs / 2) cs, section-size (length fs / 4) fs)

pub returns : goal.returns
returns c = sections-put _ _ _ refl c.put_section-second.ensures c.put_section-third.ensures c.put_section.ensures c.requires
