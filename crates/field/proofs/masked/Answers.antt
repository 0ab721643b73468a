-- `masked` takes the byte whole or not at all, by a mask of one bit.
use native.Mathlib.Omega.{arith}
use Rattle.field.proofs.Mask.{and-bit}
use Rattle.field.proofs.masked.Goals as goal

pub returns : goal.returns
returns c = and-bit c.args.a c.args.bits (omega arith)
