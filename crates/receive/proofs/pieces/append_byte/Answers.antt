-- `receive::pieces::append_byte` meets its contract: the byte, then what stands behind it. Assumes nothing.
use mathlib.Core.Path.{sym}
use Rattle.receive.specs.Printed.{byte_text}
use Rattle.printing.proofs.Appending.{append-append}
use Rattle.receive.proofs.pieces.append_byte.Goals as goal

pub returns : goal.returns
unfolding byte_text
returns c =
    rw (sym c.separator.ensures) (append-append _ _ _ _ _ _ _ _ c.append_hex-behind.ensures c.append.ensures)
