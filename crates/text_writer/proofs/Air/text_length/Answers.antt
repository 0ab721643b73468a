-- `text_writer::Air::text_length` meets its contract. Assumes nothing.
use mathlib.Core.Path.{◌≡◌, ap}
use Prim.Native.Nat.{ℕ}
use native.Mathlib.Omega.{arith}
use lib.ListN.{length}
use borrow.Author.Rules.{rules}
use Rattle.answer.specs.Values.{passes}
use Rattle.pack.specs.Reading.{air_of}
use Rattle.pack.specs.Packets.{packet_in}
use Rattle.pack.proofs.Sound.{plain-air, air-sound}
use Rattle.text_writer.proofs.TextLines.{first_line-le, lines_to, lines_to-more, text_in-length}
use Rattle.text_writer.proofs.Air.text_length.Goals as goal

pub first_length-len-requires : goal.first_length-len-requires
first_length-len-requires c =
    let read : air_of c.args.self.now.packets.bytes.now ≡ passes (c.args.self.now.packets.header, c.args.self.now.packets.section) = search (plain-air, rules) in
    (air-sound _ _ _ read).header.valid

pub loop-i-init : goal.loop-i-init
unfolding lines_to
loop-i-init c = (omega (arith, c.first_length-len.ensures), omega (arith, c.first_length-len.ensures, first_line-le c.args.self.now.packets.header.shape))

pub overflow_add-len : goal.overflow_add-len
overflow_add-len c = omega (arith, c.args.self.now.few, c.line_length-len.ensures.1)

pub loop-i-preserved : goal.loop-i-preserved
loop-i-preserved c =
    let a = c.args.self.now.packets in
    let more = lines_to-more (packet_in a.bytes.now a.header a.section) c.loop-i.i in
    (omega (arith, c.line_length-len.ensures.0), omega (arith, c.line_length-len.ensures.1))

pub returns : goal.returns
returns c =
    let a = c.args.self.now.packets in
    let all : c.loop-i.i ≡ a.section.count = omega arith in
    let k = packet_in a.bytes.now a.header a.section in
    omega (arith, text_in-length a.bytes.now a.header a.section, ap (λ (n : ℕ). length (lines_to k n)) all)
