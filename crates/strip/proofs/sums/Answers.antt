-- `strip::sums` adds two arrays byte by byte.
use lib.ListN.{get_or}
use Rattle.std.proofs.Common.{rules}
use Rattle.field.specs.Field.{add}
use Rattle.span.proofs.Made.{made-at}
use Rattle.strip.proofs.sums.Goals as goal

pub returns : goal.returns
unfolding add
returns c =
    record { size = c.from_fn.ensures.items.long; bytes = made-at _ _ (λ t. add (get_or c.args.a t 0) (get_or c.args.b t 0)) (λ t y q k. search rules) 64 c.from_fn.ensures.items }
