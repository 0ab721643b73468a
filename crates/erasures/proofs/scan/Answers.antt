-- `erasures::scan` finds the line, asks for as many flags as cells, and counts.
use mathlib.Core.Path.{◌≡◌, ap, ap₂, ◌∙◌}
use Prim.Native.Nat.{ℕ}
use lib.ListN.{length}
use borrow.Author.Tests.{eq-eqb, ne_eqb}
use Rattle.answer.specs.Refusals.{fault_number}
use Rattle.answer.specs.Values.{gives, passes, check, and_then, checked, refusal, value_of}
use Rattle.answer.proofs.Values.{handed-on, then-refused, value-passed, value-refused, refusal-gives}
use Rattle.shape.specs.declared.Sizes.{Sizes}
use Rattle.shape.specs.Shapes.{Valid, cells, sizes, line_of}
use Rattle.shape.proofs.Valid.{shape-passed, valid-passes}
use Rattle.shape.proofs.Geometry.{line-passed, line-found}
use Rattle.erasures.specs.Scan.{scanned, scan_of}
use Rattle.erasures.proofs.Inside.{line-places}
use Rattle.erasures.proofs.scan.Goals as goal
use Rattle.erasures.proofs.scan.Goals.{In_ok-found, In_ok-z}

found : (c : In_ok-found) → line_of c.args.sh c.args.axis c.args.line ≡ passes c.in_ok-found.found
found c = value-passed _ _ _ c.axis_line.ensures c.in_ok-found.was

pub returns-in_err-found : goal.returns-in_err-found
unfolding scan_of
returns-in_err-found c =
    handed-on _ _ _ c.from_residual.ensures.1 (then-refused _ _ _ (value-refused _ _ _ c.axis_line.ensures c.in_err-found.was))

-- the line has passed, so the shape is measured
measured : (c : In_ok-z) → Valid c.args.sh × (c.in_ok-z.z ≡ sizes c.args.sh)
measured c = shape-passed _ _ (value-passed _ _ _ c.measure.ensures c.in_ok-z.was)

pub returns-in_err-z : goal.returns-in_err-z
unfolding checked
returns-in_err-z c =
    let v = (line-passed _ _ _ _ (found (goal.at.returns-in_err-z c).In_ok-found)).0 in
    absurd (refusal-gives _ _ (value-refused _ _ _ c.measure.ensures c.in_err-z.was ∙ ap checked (valid-passes _ v)))

pub returns-then-flags-z : goal.returns-then-flags-z
unfolding scan_of value_of and_then check checked refusal fault_number sizes
returns-then-flags-z c =
    let same = (measured (goal.at.returns-then-flags-z c).In_ok-z).1 in
    rw (found (goal.at.returns-then-flags-z c).In_ok-found, ne_eqb _ _ (rw same at c.if-flags-z.true))

pub returns : goal.returns
unfolding scan_of value_of and_then check checked scanned sizes
returns c =
    let line = found (goal.at.returns c).In_ok-found in
    let (v, same) = measured (goal.at.returns c).In_ok-z in
    let all : length c.args.flags.now ≡ cells c.args.sh = c.if-flags-z.false ∙ ap (λ (z : Sizes). z.cells) same in
    let here = c.scan_line-e.ensures.done (line-places _ _ _ _ _ v all (line-found _ _ _ _ line)) in
    rw (line, eq-eqb _ _ all) (ap₂ (λ (n m : ℕ). gives (record { erasures = n; read = m })) here.0.number here.1)
