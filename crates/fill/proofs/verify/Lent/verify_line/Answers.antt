-- `Lent::verify_line` tells whether a line without a missing cell is a codeword in every layer.
use mathlib.Core.Path.{◌≡◌}
use Prim.Native.Nat.{min}
use native.Mathlib.Omega.{arith}
use Rattle.answer.specs.Values.{passes}
use Rattle.answer.proofs.Values.{value-passed, value-refused}
use Rattle.shape.specs.Shapes.{IsLine, line_of}
use Rattle.shape.specs.Flags.{missing}
use Rattle.shape.proofs.Geometry.{line-found}
use Rattle.stopping.specs.Stopping.{on_line}
use Rattle.erasures.proofs.Inside.{line-places}
use Rattle.peel.specs.Inner.OnLine.{Neighbours}
use Rattle.peel.proofs.Lines.{first-room, stride-room}
use Rattle.fill.proofs.Lines.{neighbours-one, right-missing, right-codewords, line-decided, line-none}
use Rattle.fill.proofs.verify.Lent.verify_line.Goals as goal
use Rattle.fill.proofs.verify.Lent.verify_line.Goals.{After-scan_line-e, In-Ok}

found : (c : In-Ok) → line_of c.args.self.now.shape c.args.axis c.args.m ≡ passes c.in-Ok.line
found c = value-passed _ _ _ c.axis_line.ensures c.in-Ok.is

line : (c : In-Ok) → IsLine c.args.self.now.shape c.in-Ok.line.first c.in-Ok.line.stride c.in-Ok.line.len
line c = line-found _ _ _ _ (found c)

alone : (c : In-Ok) → Neighbours c.args.self.now.shape c.in-Ok.line.first c.in-Ok.line.stride c.in-Ok.line.len 1
alone c = neighbours-one _ _ _ _ c.args.self.now.sized.valid (line c)

counted : (c : After-scan_line-e) → c.scan_line-e.result.count ≡ min 3 (on_line (missing c.args.self.now.flags.now) c.in-Ok.line.first c.in-Ok.line.stride c.in-Ok.line.len)
counted c =
    let pre = c.args.self.now.sized in
    (c.scan_line-e.ensures.done (line-places _ _ _ _ _ pre.valid pre.flags (line-found _ _ _ _ (value-passed _ _ _ c.axis_line.ensures c.in-Ok.is)))).0.number

pub returns-in_default : goal.returns-in_default
returns-in_default c = line-none _ _ _ _ _ _ _ (value-refused _ _ _ c.axis_line.ensures c.in_default.is)

pub returns-then-e-ne0 : goal.returns-then-e-ne0
returns-then-e-ne0 c =
    let here = goal.at.returns-then-e-ne0 c in
    line-decided _ _ _ _ _ _ _ (found here.In-Ok) _
    (right-missing _ _ _ c.args.self.now.sized _ _ _ (line here.In-Ok)
    _ (λ e. omega (arith, counted here.After-scan_line-e, c.if-e-ne0.true)))

pub overflow_mul-run : goal.overflow_mul-run
overflow_mul-run c = omega (arith, first-room _ c.args.self.now.cube.now c.args.self.now.sized.valid c.args.self.now.sized.bytes _ _ _ 1 (alone (goal.at.overflow_mul-run c).In-Ok))

pub overflow_mul-run-2 : goal.overflow_mul-run-2
overflow_mul-run-2 c = omega (arith, stride-room _ c.args.self.now.cube.now c.args.self.now.sized.valid c.args.self.now.sized.bytes _ _ _ 1 (alone (goal.at.overflow_mul-run-2 c).In-Ok))

pub returns : goal.returns
returns c =
    let here = goal.at.returns c in
    line-decided _ _ _ _ _ _ _ (found here.In-Ok) _
    (right-codewords _ _ _ c.args.self.now.sized _ _ _ (line here.In-Ok)
    _ (omega (arith, counted here.After-scan_line-e, c.if-e-ne0.false)) _ (rw c.reduction.ensures at c.codewords.ensures))
