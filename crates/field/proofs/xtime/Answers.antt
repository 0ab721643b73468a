-- `xtime` adds the reduction byte by a mask of the highest bit.
use native.Mathlib.Omega.{arith}
use Rattle.field.specs.Field.{add}
use Rattle.field.proofs.Mask.{xtime-mask}
use Rattle.field.proofs.xtime.Goals as goal

pub returns : goal.returns
unfolding add
returns c = xtime-mask c.args.reduction c.args.a (omega arith) (omega arith)
