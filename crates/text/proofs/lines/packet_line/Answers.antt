-- `text::lines::packet_line` meets its contract.
use Rattle.span.proofs.Decision.{decides-false, decides-true}
use Rattle.text.proofs.Parts.{three-some, three-none, packet-numbers-none, packet-bytes-none, packet-read}
use Rattle.text.proofs.lines.packet_line.Goals as goal

pub returns-in_err-a : goal.returns-in_err-a
returns-in_err-a c = rw c.from_residual.ensures (packet-numbers-none _ _ _ (three-none _ c.three.ensures c.in_err-a.was))

pub returns-then-not-hex_line : goal.returns-then-not-hex_line
returns-then-not-hex_line c =
    packet-bytes-none _ _ _ _ _ _ _ (three-some _ _ _ _ _ c.three.ensures c.in_ok-a.was)
    (decides-false c.hex_line.ensures c.if-not-hex_line.true)

pub returns : goal.returns
returns c =
    packet-read _ _ _ _ _ _ _ (three-some _ _ _ _ _ c.three.ensures c.in_ok-a.was)
    (decides-true c.hex_line.ensures c.if-not-hex_line.false)
