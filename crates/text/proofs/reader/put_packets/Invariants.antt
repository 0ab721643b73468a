-- `text::reader::put_packets` meets its contract. The invariant: the packets of the lines before i are laid. Assumes nothing.
use Rattle.text.proofs.Decoding.{Turned}
use Rattle.text.proofs.reader.put_packets.Given as goal

abbrev pub invariant-loop-i : goal.invariant-loop-i
invariant-loop-i l = Turned l.text l.w l.initial.air l.initial.turn l._i l.air l.turn
