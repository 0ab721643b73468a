-- `pack_writer::writing::write_air` meets its contract. Assumes nothing.
use Rattle.std.proofs.lemmas.Result.{err_from_is_err_and}
use Rattle.answer.specs.Values.{value_of}
use Rattle.answer.proofs.Values.{value-passed}
use Rattle.pack_writer.specs.Writing.{air_written}
use Rattle.pack_writer.proofs.Outcomes.{air-passed, air-unfit}
use Rattle.pack_writer.proofs.writing.write_air.Goals as goal

pub write_sections-requires : goal.write_sections-requires
write_sections-requires c = air-passed _ _ _ (value-passed _ _ _ c.slices_fit.ensures c.in_ok-slices_fit.was)

pub returns-in_err-slices_fit : goal.returns-in_err-slices_fit
returns-in_err-slices_fit c =
    let (f, is, same) = err_from_is_err_and c.from_residual.result c.from_residual.ensures.1 in
    rw (is, same) (air-unfit _ _ _ _ _ c.slices_fit.ensures c.in_err-slices_fit.was)

pub returns : goal.returns
unfolding value_of
returns c =
    air_written (value-passed _ _ _ c.slices_fit.ensures c.in_ok-slices_fit.was) c.write_sections.ensures
