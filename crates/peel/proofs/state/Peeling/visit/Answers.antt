-- `Peeling::visit` fills line m of an axis and perhaps its neighbours, or finds that there is none.
use Rattle.answer.proofs.Values.{value-passed, value-refused}
use mathlib.Core.Path.{◌≡◌}
use native.Mathlib.Omega.{arith}
use Rattle.answer.specs.Values.{passes}
use Rattle.shape.specs.Shapes.{line_of}
use Rattle.shape.proofs.Geometry.{line-found, line-stride-pos}
use Rattle.cube.proofs.AxisRuns.{lines-ended}
use Rattle.peel.proofs.Visiting.{neighbours-of, visited-past, visited-lines}
use Rattle.peel.proofs.state.Peeling.visit.Goals as goal
use Rattle.peel.proofs.state.Peeling.visit.Goals.{In-Ok}

found : (c : In-Ok) → line_of c.args.self.now.shape c.args.axis c.args.m ≡ passes c.in-Ok.line
found c = value-passed _ _ _ c.axis_line.ensures c.in-Ok.is

pub returns-in_default-clause-visited : goal.returns-in_default-clause-visited
returns-in_default-clause-visited c =
    visited-past _ _ _ _
    (lines-ended _ _ _ _ c.args.self.now.sized.valid c.requires.0.0 c.requires.0.1 (value-refused _ _ _ c.axis_line.ensures c.in_default.is))

pub beside-most-requires : goal.beside-most-requires
beside-most-requires c =
    (line-stride-pos _ _ _ _ c.args.self.now.sized.valid (line-found _ _ _ _ (found (goal.at.beside-most-requires c).In-Ok)), c.requires.1)

pub fill_lines-requires-clause-neighbours : goal.fill_lines-requires-clause-neighbours
fill_lines-requires-clause-neighbours c =
    neighbours-of _ _ _ _ (found (goal.at.fill_lines-requires-clause-neighbours c).In-Ok) _ c.beside-most.ensures.0 c.beside-most.ensures.2

pub returns-clause-visited : goal.returns-clause-visited
returns-clause-visited c =
    visited-lines _ _ (found (goal.at.returns-clause-visited c).In-Ok) (omega (arith, c.fill_lines.ensures.le_lines.1, c.beside-most.ensures.2))
    c.fill_lines.ensures.lines_visited
