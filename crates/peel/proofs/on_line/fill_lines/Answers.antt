-- `peel::on_line::fill_lines` fills a line that misses one or two cells with its neighbours that miss the same; a line with none or more is
-- left.
use mathlib.Core.Logic.{inl, inr, ⊎_elim}
use Prim.Native.Nat.{◌*◌, ◌≤◌}
use native.Mathlib.Omega.{arith}
use borrow.Author.Rules.{rules}
use Rattle.shape.specs.Flags.{missing}
use Rattle.erasures.specs.Erasures.{Scanned}
use Rattle.erasures.proofs.Inside.{line-places}
use Rattle.field.specs.Field.{reduction}
use Rattle.field.proofs.Primitive.{primitive}
use Rattle.erasures.proofs.Scanning.{scanned-order}
use Rattle.peel.specs.Inner.Sweep.{Filled}
use Rattle.peel.specs.Inner.OnLine.{Neighbours, AllStop}
use Rattle.peel.proofs.Lines.{neighbours-first, neighbours-fewer}
use Rattle.peel.proofs.Reaching.{filled-le}
use Rattle.peel.proofs.Together.{lines-filled, lines-stop}
use Rattle.peel.proofs.Visiting.{lines-recovered, line-left}
use Rattle.peel.proofs.on_line.fill_lines.Goals as goal
use Rattle.peel.proofs.on_line.fill_lines.Goals.{After-alike-n, After-flag_holes, After-scan_line-e, Else-e-gt2}

scanned : (c : After-scan_line-e) → Scanned (missing c.args.flags.now) c.args.line.first c.args.line.stride c.args.line.len c.scan_line-e.result.count c.scan_line-e.result.first c.scan_line-e.result.last
scanned c =
    let pre = c.requires in
    (c.scan_line-e.ensures.done (line-places _ _ _ _ _ pre.sized.valid pre.sized.flags (neighbours-first pre.neighbours))).0

some : (c : Else-e-gt2) → 1 ≤ c.scan_line-e.result.count
some c = omega (arith, c.if-e-eq0.false)

few : (c : Else-e-gt2) → c.scan_line-e.result.count ≤ 2
few c = c.if-e-gt2.false

beside : (c : After-alike-n) → Neighbours c.args.sh c.args.line.first c.args.line.stride c.args.line.len c.alike-n.result
beside c = neighbours-fewer c.requires.neighbours c.alike-n.ensures.0 c.alike-n.ensures.1

filled :
    (c : After-flag_holes) →
    Filled reduction c.args.sh (AllStop c.args.line.first c.args.line.stride c.args.line.len c.alike-n.result)
    c.args.cube.now c.args.flags.now c.recover.new.cube c.flag_holes.new.flags (c.scan_line-e.result.count * c.alike-n.result)
filled c =
    lines-filled _ _ _ _ _ _ c.requires.sized _ _ _ _ _ _ _ (neighbours-fewer c.requires.neighbours c.alike-n.ensures.0 c.alike-n.ensures.1) c.alike-n.ensures.2 c.flag_holes.ensures _ primitive _
    (λ p. search rules) c.recover.ensures

pub returns-then-e-eq0 : goal.returns-then-e-eq0
returns-then-e-eq0 c = record {
  le_lines = (omega arith, c.requires.neighbours.some);
  lines_visited = line-left _ _ _ _ _ _
      (⊎_elim (λ w. inl (omega (arith, (scanned (goal.at.returns-then-e-eq0 c).After-scan_line-e).number, w)))
      (λ w. inr (omega (arith, (scanned (goal.at.returns-then-e-eq0 c).After-scan_line-e).number, w.1))) c.then-e-eq0.either);
}

pub alike-n-requires : goal.alike-n-requires
alike-n-requires c = record {
  le_most = (c.requires.neighbours.some, some (goal.at.alike-n-requires c).Else-e-gt2, few (goal.at.alike-n-requires c).Else-e-gt2);
  by_index = λ q h. line-places _ _ _ _ _ c.requires.sized.valid c.requires.sized.flags (c.requires.neighbours.each q h);
  scanned = scanned (goal.at.alike-n-requires c).After-scan_line-e;
}

pub recover-requires : goal.recover-requires
recover-requires c = record {
  is_cube = record { valid = c.requires.sized.valid; size = c.requires.sized.bytes };
  neighbours = beside (goal.at.recover-requires c).After-alike-n;
  first_le_last = (scanned-order _ _ _ _ _ _ _ (scanned (goal.at.recover-requires c).After-scan_line-e) (some (goal.at.recover-requires c).Else-e-gt2), (scanned (goal.at.recover-requires c).After-scan_line-e).bound (some (goal.at.recover-requires c).Else-e-gt2));
}

pub flag_holes-requires : goal.flag_holes-requires
flag_holes-requires c = record {
  valid = (c.requires.sized.valid, c.requires.sized.flags);
  neighbours = beside (goal.at.flag_holes-requires c).After-alike-n;
  first_le_last = (scanned-order _ _ _ _ _ _ _ (scanned (goal.at.flag_holes-requires c).After-scan_line-e) (some (goal.at.flag_holes-requires c).Else-e-gt2), (scanned (goal.at.flag_holes-requires c).After-scan_line-e).bound (some (goal.at.flag_holes-requires c).Else-e-gt2));
}

pub overflow_mul-result : goal.overflow_mul-result
overflow_mul-result c = omega (arith, filled-le (filled (goal.at.overflow_mul-result c).After-flag_holes), c.requires.sized.flags)

pub returns : goal.returns
returns c = record {
  le_lines = (c.alike-n.ensures.0, c.alike-n.ensures.1);
  lines_visited = lines-recovered (filled (goal.at.returns c).After-flag_holes)
      (lines-stop _ _ _ _ _ _ c.requires.sized _ _ _ _ _ _ _ (beside (goal.at.returns c).After-alike-n) c.alike-n.ensures.2 c.flag_holes.ensures) c.flag_holes.ensures;
}
