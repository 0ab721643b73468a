-- `jibrufath::needs::needs_of` meets its contract: a header that was read has a valid shape, its sizes, and room for the file's length.
use Rattle.shape.specs.Shapes.{sizes}
use Rattle.pack.proofs.Sound.{sound-sent}
use Rattle.pack_writer.proofs.Outcomes.{written-given, written-refused}
use Rattle.jibrufath.proofs.SizeBounds.{needs-listed}
use Rattle.jibrufath.proofs.needs.needs_of.Goals as goal

pub overflow_sub-result : goal.overflow_sub-result
unfolding sizes
overflow_sub-result c =
    rw c.requires.measured c.requires.room

pub returns-in_default : goal.returns-in_default
returns-in_default c =
    absurd (written-refused _ (sound-sent _ c.requires) _ c.written_bytes.ensures _ c.in_default.is)

pub returns : goal.returns
returns c =
    let h = c.requires in
    needs-listed _ _ _ h.measured (written-given _ (sound-sent _ h) _ c.written_bytes.ensures _ c.in-Ok.is)
