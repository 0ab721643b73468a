-- `pack::reading::read_air` meets its contract. Assumes nothing.
use Rattle.answer.specs.Values.{and_then}
use Rattle.answer.proofs.Values.{then-refused, value-passed, value-refused, handed-on}
use Rattle.pack.specs.Reading.{air_of}
use Rattle.pack.proofs.Sound.{header-sound}
use Rattle.pack.proofs.reading.read_air.Goals as goal

pub returns-in_err-h : goal.returns-in_err-h
unfolding air_of
returns-in_err-h c =
    handed-on _ _ _ c.from_residual.ensures.1 (then-refused _ _ _ (value-refused _ _ _ c.read_header.ensures c.in_err-h.was))

pub air_behind-requires : goal.air_behind-requires
air_behind-requires c = (header-sound _ _ _ (value-passed _ _ _ c.read_header.ensures c.in_ok-h.was)).valid.w_high

pub returns : goal.returns
unfolding air_of and_then
returns c = rw (value-passed _ _ _ c.read_header.ensures c.in_ok-h.was) c.air_behind.ensures
