-- `text::scan::scan_packets` meets its contract: the lines passed are those of a list of packets.
use mathlib.Core.Path.{refl}
use native.Mathlib.Omega.{arith}
use mathlib.Core.Logic.{inl, inr}
use Rattle.text.proofs.FirstTurn.{none_so_far, line-ends, more-so-far, whole-so-far, broken-so-far, none-refused, packet-none}
use Rattle.text.proofs.scan.scan_packets.Goals as goal

pub loop-at-init : goal.loop-at-init
loop-at-init c = none_so_far _ _ _ c.requires

pub returns-then-n-eq-MOST : goal.returns-then-n-eq-MOST
returns-then-n-eq-MOST c = broken-so-far _ _ _ _ _ _ c.loop-at.invariant _ (omega arith) refl (inl (omega arith))

pub returns-in_err-a : goal.returns-in_err-a
returns-in_err-a c =
    rw (none-refused _ _ _ _ c.in_err-a.ensures.value c.from_residual.ensures.1)
    (broken-so-far _ _ _ _ _ _ c.loop-at.invariant _ (omega arith) refl
    (inr (packet-none _ c.packet_line.ensures c.in_err-a.ensures.ok_part)))

pub loop-at-smaller : goal.loop-at-smaller
loop-at-smaller c =
    let (past, inside) = line-ends _ _ _ _ _ _ c.loop-at.invariant _ _ _ _ _ c.packet_line.ensures c.in_ok-a.ensures.ok_part in
    omega arith

pub loop-at-preserved : goal.loop-at-preserved
loop-at-preserved c =
    let inv = c.loop-at.invariant in
    more-so-far _ _ _ _ _ _ inv _ _ _ _ _ _ (omega (arith, inv.most)) c.packet_line.ensures c.in_ok-a.ensures.ok_part c.inside_next-inside.ensures

pub returns : goal.returns
returns c = whole-so-far _ _ _ _ _ _ c.loop-at.invariant (omega arith)
