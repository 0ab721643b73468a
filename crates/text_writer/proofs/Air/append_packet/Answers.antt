-- `text_writer::Air::append_packet` meets its contract. Assumes nothing.
use mathlib.Core.Path.{◌≡◌, ap}
use Prim.Native.Nat.{ℕ, ◌+◌, ◌-◌, ◌*◌, ◌≤◌}
use native.Mathlib.Omega.{arith}
use lib.ListN.{length, drop, length-drop}
use lib.Seq.{length-take-le}
use borrow.Author.Rules.{rules}
use Rattle.answer.specs.Values.{passes}
use Rattle.pack.specs.Reading.{air_of}
use Rattle.pack.proofs.Sound.{plain-air}
use Rattle.printing.specs.Text.{decimal}
use Rattle.text_writer.proofs.TextLines.{no-parts, line-room, line-appended}
use Rattle.text_writer.proofs.Air.append_packet.Goals as goal
use Rattle.text_writer.proofs.Air.append_packet.Goals.{After-append_triple-cell}

-- the packet's bytes lie in the pack, and there is room for their text behind the numbers
room : (c : After-append_triple-cell)
    → (c.in-Some.from + c.args.self.now.packets.header.shape.w ≤ length c.args.self.now.packets.bytes.now)
    × (c.append_triple-cell.result + 3 * c.args.self.now.packets.header.shape.w ≤ length c.append_triple-cell.new.out)
room c =
    let read : air_of c.args.self.now.packets.bytes.now ≡ passes (c.args.self.now.packets.header, c.args.self.now.packets.section) = search (plain-air, rules) in
    let digits = λ (n : ℕ). length (decimal n) in
    line-room _ _ _ read _ c.requires.0 _ c.parts.ensures _ _ _ _ c.in-Some.is _ _ _ _ _ _ _
    c.append_triple-cell.ensures (omega (arith, ap digits c.from.ensures, ap digits c.from-2.ensures, ap digits c.from-3.ensures)) c.requires.1

pub returns-in_default : goal.returns-in_default
returns-in_default c =
    let read : air_of c.args.self.now.packets.bytes.now ≡ passes (c.args.self.now.packets.header, c.args.self.now.packets.section) = search (plain-air, rules) in
    absurd (no-parts _ _ _ read _ c.requires.0 _ c.parts.ensures c.in_default.is)

pub slice_bounds-append_bytes-end : goal.slice_bounds-append_bytes-end
slice_bounds-append_bytes-end c = (room (goal.at.slice_bounds-append_bytes-end c).After-append_triple-cell).0

pub append_bytes-end-requires : goal.append_bytes-end-requires
append_bytes-end-requires c =
    let (inside, fits) = room (goal.at.append_bytes-end-requires c).After-append_triple-cell in
    let a = c.args.self.now.packets in
    let from = c.in-Some.from in
    omega (arith, length-drop from a.bytes.now, length-take-le (from + a.header.shape.w - from) (drop from a.bytes.now) (omega (arith, length-drop from a.bytes.now)))

pub returns : goal.returns
returns c =
    let w = c.args.self.now.packets.header.shape.w in
    let from = c.in-Some.from in
    let wide : from + w - from ≡ w = omega arith in
    let read : air_of c.args.self.now.packets.bytes.now ≡ passes (c.args.self.now.packets.header, c.args.self.now.packets.section) = search (plain-air, rules) in
    line-appended _ _ _ read _ c.requires.0 _ c.parts.ensures _ _ _ _ c.in-Some.is _ _ _ _ _ _ _ _
    (rw (c.from.ensures, c.from-2.ensures, c.from-3.ensures) at c.append_triple-cell.ensures) (rw wide at c.append_bytes-end.ensures) c.append.ensures
