-- `data::writer::set_from` goes piece by piece: the bytes before the next piece are set.
use mathlib.Core.Path.{◌≡◌, ◌∙◌}
use Prim.Native.Nat.{◌-◌, ◌≤◌}
use native.Mathlib.Omega.{arith}
use Rattle.span.proofs.Setting.{set-none}
use Rattle.shape.specs.Shapes.{capacity}
use Rattle.data.proofs.Placing.{lies-ahead}
use Rattle.data.proofs.Writing.{parity-kept-none, parity-kept-trans, stretch-parity, set_more}
use Rattle.data.proofs.writer.set_from.Goals as goal

pub over-s-items-requires : goal.over-s-items-requires
over-s-items-requires c = (c.requires.0.valid, omega (arith, c.requires.1))

pub loop-s-init : goal.loop-s-init
loop-s-init c =
    let o = c.over-s-items.ensures in
    let none : c.over-s-items.result.q - c.args.from ≡ 0 = omega arith in
    rw c.into_iter-s-iterator.ensures.into_iter_gives
    (record {
      can = λ l. o.3;
      finite = tt;
      shape = o.0;
      low = λ l. omega arith;
      ends = o.2;
      set = rw none (set-none _ _ _);
      kept = parity-kept-none _ _;
    })

pub loop-s-preserved : goal.loop-s-preserved
loop-s-preserved c =
    let v = c.requires.0.valid in
    let inv = c.loop-s.invariant in
    let step = c.in-Some.ensures.steps in
    let ahead = lies-ahead _ _ _ _ c.requires.0.valid inv.shape (inv.can step.less) (omega (arith, step.less, inv.ends, c.requires.1)) in
    let low = inv.low (omega (arith, step.less, inv.ends)) in
    let room : c.next.new.self.q ≤ c.args.end = omega (arith, c.next.new.self.begun, step.end, inv.ends) in
    let set = rw step.place at (c.set.ensures.done (omega (arith, ahead.inside, step.place, step.part, inv.kept.size, c.requires.0.size))).1 in
    record {
      can = c.in-Some.ensures.goes.keeps;
      finite = tt;
      shape = step.shape ∙ inv.shape;
      low = λ l. omega (arith, step.next);
      ends = step.end ∙ inv.ends;
      set = rw step.next (set_more _ v _ _ _ _ _ _ _ _ ahead.standing step.part low (omega (arith, step.next, c.requires.1)) inv.set set);
      kept = parity-kept-trans inv.kept (stretch-parity _ v _ _ _ _ _ ahead.standing step.part set.kept ahead.below);
    }

pub returns : goal.returns
returns c =
    let inv = c.loop-s.invariant in
    let all : c.loop-s.s-iterator.q ≡ capacity c.args.sh = omega (arith, c.in-None.ensures.steps, c.loop-s.s-iterator.begun, inv.ends, c.requires.1) in
    (rw all at inv.set, inv.kept)
