-- `shape::flags::valid` meets its contract: the fold over the flags tests them all.
use mathlib.Core.Path.{refl, ◌∙◌}
use mathlib.Core.Bool.{◌&&◌}
use Rattle.std.proofs.Common.{rules, tests}
use Rattle.std.proofs.lemmas.Iterator.{YieldsList-from_slice}
use Rattle.std.proofs.lemmas.Iterator.Consumers.{fold_from_yields_List}
use lib.Dec.{leb}
use Rattle.shape.specs.Flags.{flags_valid}
use Rattle.shape.proofs.Scan.{every-joined}
use Rattle.shape.proofs.flags.valid.Goals as goal

pub returns : goal.returns
unfolding flags_valid
returns c =
    fold_from_yields_List _ (λ b f. b && leb f 2) _ _ c.fold.ensures.ran (YieldsList-from_slice c.args.flags.now cc) (λ b x r q k. search (rules, tests))
    ∙ every-joined flags_valid (λ f. leb f 2) refl (λ f fs. refl) _
