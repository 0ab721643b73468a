-- `answer::number` meets its contract: the one fault of a packet has its number. The check finds the other arms.
use mathlib.Core.Path.{sym}
use Rattle.answer.specs.Values.{refusal, number_of}
use Rattle.answer.proofs.Values.{packet-fault-number}
use Rattle.answer.proofs.number.Goals as goal

pub returns-in-Packet : goal.returns-in-Packet
unfolding number_of refusal
returns-in-Packet c = rw c.in-Packet.is (sym (packet-fault-number _))
