-- `peel::wake::groups` counts the groups of an axis: eight times as many are no fewer than its lines.
use mathlib.Core.Path.{◌≡◌, ap, ◌∙◌}
use native.Mathlib.Omega.{arith}
use Rattle.std.proofs.Common.{rules}
use Rattle.std.proofs.lemmas.Result.{MatchResult-at_ok}
use Rattle.std.specs.Int.{div_ceil}
use Rattle.std.specs.Prelude.{Ok}
use Rattle.answer.specs.Values.{checked, value_of}
use Rattle.answer.proofs.Values.{value-injective}
use Rattle.shape.specs.Shapes.{lines_of}
use Rattle.shape.proofs.Axes.{axis-found, lines-few}
use Rattle.peel.proofs.wake.groups.Goals as goal

pub returns : goal.returns
unfolding checked value_of
returns c =
    let found = value-injective c.axis_of.result (Ok _) (c.axis_of.ensures ∙ ap checked (axis-found _ _ c.requires.0 c.requires.1)) in
    let told = MatchResult-at_ok _ _ _ found c.map_or.ensures in
    let few = lines-few c.args.sh c.args.axis c.requires.0 in
    let e : c.map_or.result ≡ div_ceil (lines_of c.args.sh c.args.axis) 8 = search rules in
    (omega arith, omega arith)
