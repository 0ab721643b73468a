-- `line::wide::four` takes four of Horner's steps for each line.
use mathlib.Core.Path.{refl, ◌∙◌}
use Prim.Native.Nat.{◌+◌, ◌*◌, ◌≤◌}
use native.Mathlib.Omega.{arith}
use lib.ListN.{length}
use native.Mathlib.Nat.{mul-add}
use Rattle.field.specs.Field.{add}
use Rattle.line.proofs.Tails.{horner0-at, horner1-at}
use Rattle.strip.proofs.Updated.{updated-more}
use Rattle.line.proofs.wide.four.Goals as goal
use Rattle.line.proofs.wide.four.Goals.{Start}
use Rattle.line.proofs.wide.four.Given.{Over}

strip :
    (g : Over) (c : Start g) →
    c.args.run.first + c.args.run.stride * c.args.left + c.args.run.stride * 3 + c.args.run.width ≤ length c.args.s.now
strip g c =
    omega (arith, c.requires.0.fits (c.args.left + 3) c.requires.1, mul-add c.args.run.stride c.args.left 3)

pub overflow_add-at1 : goal.overflow_add-at1
overflow_add-at1 g c = omega (arith, strip g (goal.at.overflow_add-at1 g c).Start)

pub overflow_add-at2 : goal.overflow_add-at2
overflow_add-at2 g c = omega (arith, strip g (goal.at.overflow_add-at2 g c).Start)

pub overflow_add-at3 : goal.overflow_add-at3
overflow_add-at3 g c = omega (arith, strip g (goal.at.overflow_add-at3 g c).Start)

pub overflow_add-c1 : goal.overflow_add-c1
overflow_add-c1 g c = omega (arith, strip g (goal.at.overflow_add-c1 g c).Start)

pub bounds-s-at1 : goal.bounds-s-at1
bounds-s-at1 g c = omega (arith, strip g (goal.at.bounds-s-at1 g c).Start)

pub overflow_add-c2 : goal.overflow_add-c2
overflow_add-c2 g c = omega (arith, strip g (goal.at.overflow_add-c2 g c).Start)

pub bounds-s-at2 : goal.bounds-s-at2
bounds-s-at2 g c = omega (arith, strip g (goal.at.bounds-s-at2 g c).Start)

pub overflow_add-c3 : goal.overflow_add-c3
overflow_add-c3 g c = omega (arith, strip g (goal.at.overflow_add-c3 g c).Start)

pub bounds-s-at3 : goal.bounds-s-at3
bounds-s-at3 g c = omega (arith, strip g (goal.at.bounds-s-at3 g c).Start)

pub loop-t-preserved : goal.loop-t-preserved
unfolding add
loop-t-preserved g c = (
  updated-more c.loop-t.invariant.0 _ _ (omega arith) (omega arith) refl refl,
  updated-more c.loop-t.invariant.1 _ _ (omega arith) (omega arith)
      (rw (c.xtime-in-loop-t-3.ensures, c.xtime-in-loop-t-2.ensures, c.xtime-in-loop-t.ensures, c.xtime.ensures)) refl,
)

pub returns : goal.returns
returns g c =
    record {
      size0 = c.loop-t.invariant.0.size;
      size1 = c.loop-t.invariant.1.size;
      first = λ t h. c.loop-t.invariant.0.done t (omega arith) (omega arith) ∙ horner0-at _ c.args.run _ t _;
      second = λ t h. c.loop-t.invariant.1.done t (omega arith) (omega arith) ∙ horner1-at _ c.args.run _ t _ _;
    }
