-- `pack::reading::read_job` meets its contract. Assumes nothing.
use Rattle.answer.specs.Values.{and_then}
use Rattle.answer.proofs.Values.{then-refused, value-passed, value-refused, handed-on}
use Rattle.pack.specs.Reading.{job_of}
use Rattle.pack.proofs.Sound.{header-sound, header-limits}
use Rattle.pack.proofs.reading.read_job.Goals as goal

pub returns-in_err-h : goal.returns-in_err-h
unfolding job_of
returns-in_err-h c =
    handed-on _ _ _ c.from_residual.ensures.1 (then-refused _ _ _ (value-refused _ _ _ c.read_header.ensures c.in_err-h.was))

pub job_behind-requires : goal.job_behind-requires
job_behind-requires c = header-limits _ (header-sound _ _ _ (value-passed _ _ _ c.read_header.ensures c.in_ok-h.was))

pub returns : goal.returns
unfolding job_of and_then
returns c = rw (value-passed _ _ _ c.read_header.ensures c.in_ok-h.was) c.job_behind.ensures
