-- `line::wide::one` takes one of Horner's steps for each line.
use mathlib.Core.Path.{refl}
use native.Mathlib.Omega.{arith}
use Rattle.field.specs.Field.{add}
use Rattle.line.specs.Run.{line_at}
use Rattle.strip.proofs.Updated.{updated-more}
use Rattle.line.proofs.wide.one.Goals as goal
use Rattle.line.proofs.wide.one.Goals.{Start}

pub loop-t-preserved : goal.loop-t-preserved
unfolding add
loop-t-preserved g c = (
  updated-more c.loop-t.invariant.0 _ _ (omega arith) (omega arith) refl refl,
  updated-more c.loop-t.invariant.1 _ _ (omega arith) (omega arith)
      (rw c.xtime.ensures) refl,
)

pub returns : goal.returns
unfolding line_at
returns g c =
    record {
      size0 = c.loop-t.invariant.0.size;
      size1 = c.loop-t.invariant.1.size;
      first = λ t h. c.loop-t.invariant.0.done t (omega arith) (omega arith);
      second = λ t h. c.loop-t.invariant.1.done t (omega arith) (omega arith);
    }
