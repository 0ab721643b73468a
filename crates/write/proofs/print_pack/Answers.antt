-- `write::print_pack` meets its contract: a job that was read has a header with a size. Assumes nothing.
use mathlib.Core.Path.{◌≡◌}
use mathlib.Core.List.{List}
use Prim.Native.Nat.{ℕ}
use native.Mathlib.Omega.{arith}
use mathlib.Core.Logic.{inl, inr}
use Rattle.answer.specs.Values.{passes}
use Rattle.pack.specs.declared.Header.{Header}
use Rattle.pack.specs.declared.Section.{Section}
use Rattle.pack.specs.Reading.{job_of}
use Rattle.pack.specs.Packs.{pack_size}
use Rattle.pack.proofs.Sound.{HeaderSent, job-sound, sound-sent}
use Rattle.pack_writer.proofs.Outcomes.{written-given, written-refused}
use Rattle.write.proofs.Printed.{cube-too-big-printed, pack-too-big-printed, pack-printed}
use Rattle.write.proofs.print_pack.Goals as goal
use Rattle.write.proofs.print_pack.Goals.{In-Ok}

sent : (job : List ℕ) (h : Header) → ((s : Section) × (job_of job ≡ passes (h, s))) → HeaderSent h
sent job h (s, e) = sound-sent _ (job-sound _ _ _ e).header

sized : (k : In-Ok) → k.in-Ok.size ≡ pack_size k.args.h
sized k =
    written-given _ (sent _ _ k.requires.3) _ k.written_bytes.ensures _ k.in-Ok.is

pub returns-in_default : goal.returns-in_default
returns-in_default c =
    absurd (written-refused _ (sent _ _ c.requires.3) _ c.written_bytes.ensures _ c.in_default.is)

pub returns-then-bytes-gt-LIMIT : goal.returns-then-bytes-gt-LIMIT
returns-then-bytes-gt-LIMIT c =
    let p = c.requires in
    let e = sized (goal.at.returns-then-bytes-gt-LIMIT c).In-Ok in
    elim c.then-bytes-gt-LIMIT.either [
      | inl cube ↦
          let (counts, prints) = cube-too-big-printed _ _ _ _ p.1 p.2 _ _ p.3.1 c.append.ensures (omega arith) in
          record { prefix_len = counts; prints = prints }
      | inr pack ↦
          let (counts, prints) = pack-too-big-printed _ _ _ _ p.1 p.2 _ _ p.3.1 c.append.ensures (omega arith) in
          record { prefix_len = counts; prints = prints }
    ]

pub returns : goal.returns
returns c =
    let p = c.requires in
    let size = sized (goal.at.returns c).In-Ok in
    let (counts, prints)
    = pack-printed _ _ _ p.3.1 p.2 (omega arith) _ _ _ _ _ p.0 p.1 size (omega arith) c.write_pack.auto.output
    c.write_pack.ensures in
    record { prefix_len = counts; prints = prints }
