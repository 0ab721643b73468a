-- `write::run` meets its contract: what was read is what the reader had left, cut at 65,537 bytes. Assumes nothing.
use Rattle.write.proofs.Writing.{output-written}
use Rattle.write.proofs.run.Goals as goal

pub returns : goal.returns
returns g c =
    let input = rw (c.take.ensures.limit, c.take.ensures.inner, c.new-input.ensures.items) at c.in_ok-read_to_end.ensures.bytes in
    output-written _ (g.R.Read.remaining c.args.from) _ _ _ _ (rw c.deref.ensures.value input) c.print-end.ensures.prints c.write_all.ensures.bytes
