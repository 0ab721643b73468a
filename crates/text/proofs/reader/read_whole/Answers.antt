-- `text::reader::read_whole` meets its contract. Assumes nothing.
use native.Mathlib.Omega.{arith}
use mathlib.Core.Path.{◌≡◌, refl}
use mathlib.Core.Logic.{inl}
use Rattle.answer.specs.Refusals.{fault_number, packet_fault_number}
use Rattle.answer.specs.Values.{refusal, value_of}
use Rattle.answer.proofs.Values.{handed-on}
use Rattle.pack.specs.Packs.{air_size}
use Rattle.pack.specs.Reading.{header_with, header_for}
use Rattle.pack.proofs.Written.{air_head-length}
use Rattle.pack_writer.proofs.Starting.{air-size-given, air-size-refused, start-short, start_fits, start-passed}
use Rattle.text.proofs.Decoding.{read-unfit, read-refusing, read-beyond, read_whole, start-told, start-refuted, pack-laid}
use Rattle.text.proofs.reader.read_whole.Goals as goal

pub returns-in_err-size : goal.returns-in_err-size
returns-in_err-size c =
    rw (handed-on _ _ _ c.from_residual.ensures.1 refl)
    (read-refusing c.requires _ _ (air-size-refused _ _ _ c.air_bytes.ensures _ c.in_err-size.was))

pub returns-then-air-size : goal.returns-then-air-size
unfolding value_of refusal fault_number
returns-then-air-size c =
    let passed = air-size-given _ _ _ c.air_bytes.ensures _ c.in_ok-size.was in
    read-unfit c.requires _ 4 (start-short _ _ _ _ passed c.if-air-size.true)

pub returns-then-s : goal.returns-then-s
unfolding value_of refusal packet_fault_number
returns-then-s c =
    let passed = air-size-given _ _ _ c.air_bytes.ensures _ c.in_ok-size.was in
    rw c.from.ensures
    (read-beyond c.requires _ (start_fits _ _ _ _ passed c.if-air-size.false) (omega (arith, c.if-s.true)))

pub returns-in_err-first : goal.returns-in_err-first
returns-in_err-first c =
    let passed = air-size-given _ _ _ c.air_bytes.ensures _ c.in_ok-size.was in
    absurd (start-refuted _ c.start_air.ensures (start_fits _ _ _ _ passed c.if-air-size.false) _ c.in_err-first.was)

pub put_packets-requires : goal.put_packets-requires
unfolding air_size header_for header_with
put_packets-requires c =
    let sh = c.args.s.shape in
    let start = start_fits _ _ _ _ (air-size-given _ _ _ c.air_bytes.ensures _ c.in_ok-size.was) c.if-air-size.false in
    let (v, _, size) = start-passed _ _ _ start in
    let laid = start-told _ c.start_air.ensures start _ c.in_ok-first.was in (
      c.requires,
      omega (arith, c.if-s.false, c.requires.scanning.inside.bound, c.requires.scanning.packets),
      v.l1_high,
      v.l2_high,
      v.l3_high,
      omega (arith, laid.behind, laid.put.kept.size, size, air_head-length (header_for sh) c.args.s.packets (inl refl)),
    )

pub returns : goal.returns
unfolding value_of
returns c =
    let start = start_fits _ _ _ _ (air-size-given _ _ _ c.air_bytes.ensures _ c.in_ok-size.was) c.if-air-size.false in
    let (_, _, size) = start-passed _ _ _ start in
    let laid = start-told _ c.start_air.ensures start _ c.in_ok-first.was in
    let all : c.args.s.inside ≡ c.args.s.packets = omega (arith, c.if-s.false, c.requires.scanning.inside.bound, c.requires.scanning.packets) in
    read_whole c.requires _ _ start all
    (λ ks h. pack-laid _ _ ks h.packets (λ i l. (h.form.packets i l).size) size laid (c.put_packets.ensures ks h))
