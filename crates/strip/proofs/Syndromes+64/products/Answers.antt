-- `strip::Syndromes::products` computes the byte at the later erasure of each line.
use lib.ListN.{get_or}
use Rattle.std.proofs.Common.{rules}
use Rattle.field.specs.Field.{add, mul}
use Rattle.span.proofs.Made.{made-at}
use Rattle.strip.proofs.Syndromes+64.products.Goals as goal

pub returns : goal.returns
returns c =
    record {
      size = c.from_fn.ensures.items.long;
      bytes =
          made-at _ _
          (λ t. add (mul c.args.reduction (get_or c.args.self.first t 0) c.args.b) (mul c.args.reduction (get_or c.args.self.second t 0) c.args.d))
          (λ t y q k. search rules) 64 c.from_fn.ensures.items;
    }
