-- `data::reader::copy_data` goes piece by piece: the bytes before the next piece are copied.
use mathlib.Core.Path.{◌≡◌, sym, ◌∙◌}
use Prim.Native.Nat.{◌+◌, ◌-◌, ◌≤◌}
use native.Mathlib.Omega.{arith}
use Rattle.span.proofs.Copying.{copied_none}
use Rattle.shape.specs.Shapes.{capacity}
use Rattle.shape.proofs.Valid.{volume-le, data-length-le, bytes_le}
use Rattle.data.proofs.Placing.{standing-same, lies-ahead}
use Rattle.data.proofs.Reading.{read_more}
use Rattle.data.proofs.reader.copy_data.Goals as goal

pub overflow_add-from : goal.overflow_add-from
unfolding capacity
overflow_add-from c =
    let v = c.requires.0.valid in
    omega (
      arith,
      c.requires.1,
      bytes_le _ _ v.w_high (volume-le _ _ _ (data-length-le _ v.l1_high) (data-length-le _ v.l2_high) (data-length-le _ v.l3_high)),
    )

pub over-s-items-requires : goal.over-s-items-requires
over-s-items-requires c = (c.requires.0.valid, omega (arith, c.requires.1))

pub loop-s-init : goal.loop-s-init
loop-s-init c =
    let o = c.over-s-items.ensures in
    let none : c.over-s-items.result.q - c.args.from ≡ 0 = omega arith in
    rw c.into_iter-s-iterator.ensures.into_iter_gives
    (record {
      can = λ l. o.3;
      finite = tt;
      shape = o.0;
      low = omega arith;
      ends = o.2;
      copied = rw none (copied_none _ _ _ _);
    })

pub loop-s-preserved : goal.loop-s-preserved
loop-s-preserved c =
    let inv = c.loop-s.invariant in
    let step = c.in-Some.ensures.steps in
    let ahead = lies-ahead _ _ _ _ c.requires.0.valid inv.shape (inv.can step.less) (omega (arith, step.less, inv.ends, c.requires.1)) in
    let low = inv.low in
    let ends = inv.ends in
    let here : c.args.from + (c.loop-s.s-iterator.q - c.args.from) ≡ c.loop-s.s-iterator.q = omega arith in
    let next : c.next.new.self.q - c.args.from ≡ c.loop-s.s-iterator.q - c.args.from + c.in-Some.s.len = omega (arith, step.next) in
    let room : c.next.new.self.q ≤ c.args.from + c.args.n = omega (arith, c.next.new.self.begun, step.end) in
    let copied = (c.copy.ensures.done (omega (arith, ahead.inside, step.place, step.part), omega (arith, step.byte, step.next, c.requires.2, inv.copied.kept.size))).1 in
    record {
      can = c.in-Some.ensures.goes.keeps;
      finite = tt;
      shape = step.shape ∙ inv.shape;
      low = omega (arith, step.next);
      ends = step.end ∙ inv.ends;
      copied =
          rw next
          (read_more _ _ c.requires.0.valid _ _ _ _ _ _ _ _ (standing-same _ _ _ _ (sym here) ahead.standing) step.part (omega (arith, step.next, c.requires.1)) inv.copied
          (rw (step.place, step.byte) at copied));
    }

pub returns : goal.returns
returns c =
    let inv = c.loop-s.invariant in
    let low = inv.low in
    let ends = inv.ends in
    let all : c.loop-s.s-iterator.q - c.args.from ≡ c.args.n = omega (arith, c.in-None.ensures.steps, c.loop-s.s-iterator.begun) in
    rw all at inv.copied
