-- `pack_writer::writing::row_sent` meets its contract. Assumes nothing.
use mathlib.Core.Path.{sym}
use native.Mathlib.Omega.{arith}
use Rattle.pack_writer.proofs.Rows.{row-sent-parity, row-sent-data}
use Rattle.pack_writer.proofs.writing.row_sent.Goals as goal
use Rattle.pack_writer.proofs.writing.row_sent.Goals.{then-sh-b-via-then-sh-b, then-sh-b-via-else-sh-b+then-sh-c}

pub returns-then-sh-b : goal.returns-then-sh-b
returns-then-sh-b c =
    let parity = row-sent-parity c.args.h c.requires.0 c.args.q c.requires.1 in (
      sym (elim c.then-sh-b.branch [
        | then-sh-b-via-then-sh-b w ↦ parity.0 w.if-sh-b.true
        | then-sh-b-via-else-sh-b+then-sh-c w ↦ parity.1 w.if-sh-c.true
      ]),
      omega arith,
    )

pub returns : goal.returns
returns c = (
  rw (c.min.ensures, c.saturating_sub.ensures) (sym (row-sent-data c.args.h c.requires.0 c.args.q c.requires.1 c.if-sh-b.false c.if-sh-c.false)),
  omega (arith, c.min.ensures),
)
