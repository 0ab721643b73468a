-- `printing::append` meets its contract: after i turns the first i bytes are pasted behind the first `at`. Assumes nothing.
use mathlib.Core.Path.{◌≡◌}
use native.Mathlib.Omega.{arith}
use Rattle.printing.proofs.Appending.{append-paste, count_fits, paste_more}
use Rattle.printing.proofs.append.Goals as goal

pub loop-i-preserved : goal.loop-i-preserved
loop-i-preserved c =
    let h = c.args in
    let (k, l) = count_fits h.out.now h.bytes.now h.at _ c.if-room-at.false c.min-count.ensures in
    paste_more h.out.now h.at h.bytes.now _ _ c.loop-i.invariant (omega arith) (omega arith)

pub returns : goal.returns
returns c =
    let h = c.args in
    let e : c.loop-i.i ≡ c.min-count.result = omega arith in
    rw (c.loop-i.invariant, e)
    (append-paste h.out.now h.at h.bytes.now c.min-count.result c.if-room-at.false c.min-count.ensures)
