-- `receive::pieces::opening` meets its contract: every opening fits in the buffer. Assumes nothing.
use native.Mathlib.Omega.{arith}
use Rattle.printing.specs.Text.{ascii, too_big_line}
use Rattle.printing.proofs.Appending.{append-whole}
use Rattle.printing.proofs.Numerals.{length-refused_line}
use Rattle.receive.specs.Printed.{opening_lines}
use Rattle.receive.proofs.Lengths.{length-opening_lines}
use Rattle.receive.proofs.pieces.opening.Goals as goal

pub returns-in-TooBig : goal.returns-in-TooBig
unfolding opening_lines too_big_line
returns-in-TooBig c =
    let l = c.requires in
    let (counts, whole) = append-whole _ (ascii "too big\n") _ _ (omega arith) c.append.ensures in
    record { prefix_len = counts; out_after = rw c.in-TooBig.is whole }

pub returns-in-Refused : goal.returns-in-Refused
unfolding opening_lines
returns-in-Refused c =
    let l = c.requires in
    let size = length-refused_line c.in-Refused.f in
    let (counts, whole) = append-whole _ _ _ _ (omega arith) c.append_refused.ensures in
    record { prefix_len = counts; out_after = rw c.in-Refused.is whole }

pub returns-in-Came : goal.returns-in-Came
returns-in-Came c =
    let l = c.requires in
    let size = length-opening_lines c.in-Came.report in
    let (counts, whole) = append-whole _ _ _ _ (omega arith) c.append_report.ensures in
    record { prefix_len = counts; out_after = rw c.in-Came.is whole }
