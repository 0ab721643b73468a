-- `pack_writer::air::start_air` meets its contract. Assumes nothing.
use Rattle.std.proofs.lemmas.Result.{err_from_is_err_and}
use mathlib.Core.Path.{refl}
use lib.ListN.{length}
use native.Mathlib.Omega.{arith}
use Rattle.answer.specs.Refusals.{fault_number}
use Rattle.answer.specs.Values.{refusal, value_of}
use Rattle.pack.specs.Packs.{section_one, head, air_head, air_size}
use Rattle.pack.specs.Reading.{header_with, header_for}
use Rattle.pack_writer.specs.Writing.{start_refused, started}
use Rattle.pack_writer.proofs.Starting.{air-size-passed, air-size-given, air-size-refused, start-unfit, start-short, start_fits}
use Rattle.pack_writer.proofs.air.start_air.Goals as goal

pub returns-in_err-n : goal.returns-in_err-n
returns-in_err-n c =
    let (f, is, same) = err_from_is_err_and c.from_residual.result c.from_residual.ensures.1 in
    rw (is, same) (start-unfit _ _ _ _ (air-size-refused _ _ _ c.air_bytes.ensures _ c.in_err-n.was))

pub returns-then-out-n : goal.returns-then-out-n
unfolding value_of refusal fault_number
returns-then-out-n c =
    let passed = air-size-given _ _ _ c.air_bytes.ensures _ c.in_ok-n.was in
    start_refused 4 (start-short _ _ (length c.args.out.now) _ passed (λ e. omega (arith, c.if-out-n.true))) refl

pub put_head-requires : goal.put_head-requires
unfolding air_size header_for header_with
put_head-requires c =
    let passed = air-size-given _ _ _ c.air_bytes.ensures _ c.in_ok-n.was in
    let (v, _, size) = air-size-passed _ _ _ passed in
    (v, omega (arith, size, c.if-out-n.false), λ nine. absurd (omega arith))

pub returns : goal.returns
unfolding value_of air_head head section_one header_for header_with
returns c =
    let passed = air-size-given _ _ _ c.air_bytes.ensures _ c.in_ok-n.was in
    started _ (start_fits _ _ (length c.args.out.now) _ passed (omega (arith, c.if-out-n.false))) c.put_head.ensures
