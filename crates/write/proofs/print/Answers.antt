-- `write::print` meets its contract. Assumes nothing.
use Rattle.answer.proofs.Values.{value-passed, value-refused}
use native.Mathlib.Omega.{arith}
use Rattle.write.proofs.Printed.{input-too-big-printed, refused-printed}
use Rattle.write.proofs.print.Goals as goal

pub returns-then-job-gt-LIMIT : goal.returns-then-job-gt-LIMIT
returns-then-job-gt-LIMIT c =
    let (counts, prints) = input-too-big-printed c.args.job.now _ _ _ c.requires.1 c.append.ensures (omega arith) in
    record { prefix_len = counts; prints = prints }

pub print_pack-requires : goal.print_pack-requires
print_pack-requires c =
    let p = c.requires in
    (p.0, p.1, c.if-job-gt-LIMIT.false, (_, value-passed _ _ _ c.read_job.ensures c.in-Ok.is))

pub returns-in-Err : goal.returns-in-Err
returns-in-Err c =
    let (counts, prints)
    = refused-printed _ _ _ _ c.requires.1 c.if-job-gt-LIMIT.false _ _ c.append_refused.ensures c.number.ensures
    (value-refused _ _ _ c.read_job.ensures c.in-Err.is) in
    record { prefix_len = counts; prints = prints }
