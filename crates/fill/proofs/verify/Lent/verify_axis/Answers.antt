-- `Lent::verify_axis` tells whether every line of an axis without a missing cell is a codeword in every layer.
use mathlib.Core.Path.{◌≡◌, ap, ◌∙◌}
use Rattle.std.proofs.Common.{rules}
use Rattle.std.proofs.lemmas.Result.{MatchResult-at_ok}
use Rattle.std.specs.Prelude.{Ok}
use Rattle.answer.specs.Values.{checked, value_of}
use Rattle.answer.proofs.Values.{value-injective}
use Rattle.span.proofs.Decision.{decides_all}
use Rattle.shape.specs.Shapes.{lines_of}
use Rattle.shape.proofs.Axes.{axis-found}
use Rattle.field.specs.Field.{reduction}
use Rattle.fill.specs.Inner.Verify.{LineRight}
use Rattle.fill.proofs.Lines.{axis-decided}
use Rattle.fill.proofs.verify.Lent.verify_axis.Goals as goal

pub returns : goal.returns
unfolding checked value_of
returns c =
    let valid = c.args.self.now.sized.valid in
    let found = value-injective c.axis_of.result (Ok _) (c.axis_of.ensures ∙ ap checked (axis-found _ _ valid c.requires)) in
    let told = MatchResult-at_ok _ _ _ found c.map_or-lines.ensures in
    let e : c.map_or-lines.result ≡ lines_of c.args.self.now.shape c.args.axis = search rules in
    let every = decides_all _ _ _ _ (LineRight reduction c.args.self.now.shape c.args.self.now.cube.now c.args.self.now.flags.now c.args.axis) c.all.ensures.ran (λ x b q k. search rules) in
    axis-decided _ _ _ _ _ valid _ (rw e at every)
