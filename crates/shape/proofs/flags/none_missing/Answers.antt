-- `shape::flags::none_missing` meets its contract: the fold over the flags tests them all.
use mathlib.Core.Path.{refl, ◌∙◌}
use mathlib.Core.Bool.{not, ◌&&◌}
use Rattle.std.proofs.Common.{rules, tests}
use Rattle.std.proofs.lemmas.Iterator.{YieldsList-from_slice}
use Rattle.std.proofs.lemmas.Iterator.Consumers.{fold_from_yields_List}
use lib.Dec.{eqb}
use Rattle.shape.specs.Flags.{none_missing}
use Rattle.shape.proofs.Scan.{every-joined}
use Rattle.shape.proofs.flags.none_missing.Goals as goal

pub returns : goal.returns
unfolding none_missing
returns c =
    fold_from_yields_List _ (λ b f. b && not (eqb f 1)) _ _ c.fold.ensures.ran (YieldsList-from_slice c.args.flags.now cc) (λ b x r q k. search (rules, tests))
    ∙ every-joined none_missing (λ f. not (eqb f 1)) refl (λ f fs. refl) _
