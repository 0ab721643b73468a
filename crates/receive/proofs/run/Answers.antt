-- `receive::run` meets its contract: what was read is what the reader had left, cut at 65,537 bytes. Assumes nothing.
use Rattle.std.proofs.Common.{◌∙◌}
use Rattle.receive.proofs.Endings.{outcome_fits}
use Rattle.receive.proofs.Writing.{text-written}
use Rattle.receive.proofs.run.Goals as goal

pub invariant_of-text : goal.invariant_of-text
invariant_of-text g c =
    record {
      flags_whole = c.receive-outcome.auto.flags ∙ c.as_mut_slice-flags.ensures.len ∙ c.in_ok-flag_bytes.ensures.len;
      file_whole = c.receive-outcome.auto.file ∙ c.as_mut_slice-file.ensures.len ∙ c.in_ok-file_bytes.ensures.len;
      fits = outcome_fits _ _ _ c.receive-outcome.ensures;
    }

pub returns : goal.returns
returns g c =
    let input = rw (c.take.ensures.limit, c.take.ensures.inner, c.new-input.ensures.items) at c.in_ok-read_to_end.ensures.bytes in
    text-written _ (g.R.Read.remaining c.args.from) _ _ _ _ _ _ (rw c.deref.ensures.value input) c.receive-outcome.ensures c.write_pieces.ensures
