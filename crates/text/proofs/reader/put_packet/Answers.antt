-- `text::reader::put_packet` meets its contract. Assumes nothing.
use native.Mathlib.Omega.{arith}
use Rattle.pack_writer.proofs.Laying.{coordinates-told}
use Rattle.text.proofs.Decoding.{line-below, line-refuted, line-again, packet-put}
use Rattle.text.proofs.reader.put_packet.Goals as goal

pub three-requires : goal.three-requires
three-requires c = line-below c.requires.0.line

pub returns-in_default : goal.returns-in_default
returns-in_default c = λ k rest l. absurd (line-refuted l _ c.three.ensures c.in_default.is)

pub overflow_cast-a : goal.overflow_cast-a
overflow_cast-a c =
    let q = line-again c.requires.0.line _ c.three.ensures _ _ _ _ c.in-Some.is in
    omega (arith, q.0, c.requires.0.line.a_byte)

pub overflow_cast-b : goal.overflow_cast-b
overflow_cast-b c =
    let q = line-again c.requires.0.line _ c.three.ensures _ _ _ _ c.in-Some.is in
    omega (arith, q.1, c.requires.0.line.b_byte)

pub overflow_cast-c : goal.overflow_cast-c
overflow_cast-c c =
    let q = line-again c.requires.0.line _ c.three.ensures _ _ _ _ c.in-Some.is in
    omega (arith, q.2, c.requires.0.line.c_byte)

pub decode-requires : goal.decode-requires
decode-requires c =
    let q = line-again c.requires.0.line _ c.three.ensures _ _ _ _ c.in-Some.is in
    let laid = coordinates-told c.write_coordinates-cell.ensures (omega (arith, c.requires.1)) in
    (q.3, omega (arith, laid.behind, laid.put.kept.size, c.requires.1))

pub overflow_mul-result : goal.overflow_mul-result
overflow_mul-result c =
    let q = line-again c.requires.0.line _ c.three.ensures _ _ _ _ c.in-Some.is in
    omega (arith, q.3.inside)

pub overflow_add-result : goal.overflow_add-result
overflow_add-result c =
    let q = line-again c.requires.0.line _ c.three.ensures _ _ _ _ c.in-Some.is in
    omega (arith, q.3.inside)

pub overflow_add-result-2 : goal.overflow_add-result-2
overflow_add-result-2 c =
    let q = line-again c.requires.0.line _ c.three.ensures _ _ _ _ c.in-Some.is in
    omega (arith, q.3.inside)

pub returns : goal.returns
returns c =
    λ k rest l.
    packet-put l _ c.three.ensures _ _ _ _ c.in-Some.is
    (coordinates-told c.write_coordinates-cell.ensures (omega (arith, c.requires.1))) c.decode.ensures
