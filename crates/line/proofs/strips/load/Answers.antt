-- `line::strips::load` copies 64 bytes into an array.
use Prim.Native.Nat.{◌+◌}
use lib.ListN.{get_or}
use Rattle.std.proofs.Common.{rules}
use Rattle.span.proofs.Made.{made-at}
use Rattle.line.proofs.strips.load.Goals as goal

pub returns : goal.returns
returns c =
    record { size = c.from_fn.ensures.items.long; bytes = made-at _ _ (λ i. get_or c.args.s.now (c.args.at + i) 0) (λ t y q k. search rules) 64 c.from_fn.ensures.items }
