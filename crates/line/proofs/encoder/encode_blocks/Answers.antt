-- `line::encoder::encode_blocks` takes strips, or copies the data places first and then solves the parity places of every line.
use Rattle.line.proofs.Parts.{inside-size}
use Rattle.line.proofs.Encoding.{parity-order, written-encoded}
use Rattle.line.proofs.encoder.encode_blocks.Goals as goal

pub solve_blocks-requires : goal.solve_blocks-requires
solve_blocks-requires c =
    let pre = c.requires in
    let order = parity-order _ pre.2 pre.1 in
    (inside-size pre.0 c.place.ensures.size, order.0, order.1)

pub returns-else-to-le16 : goal.returns-else-to-le16
returns-else-to-le16 c =
    let pre = c.requires in
    written-encoded pre.0 pre.1 pre.2 c.place.ensures c.solve_blocks.ensures
