-- `writer::write_pack` meets its contract. Assumes nothing.
use Rattle.answer.proofs.Values.{value-passed, value-refused}
use mathlib.Core.Path.{◌≡◌, ◌∙◌}
use Prim.Native.Nat.{ℕ, ◌*◌}
use native.Mathlib.Omega.{arith}
use lib.ListN.{length}
use Rattle.answer.specs.Values.{passes}
use Rattle.field.proofs.Primitive.{primitive}
use Rattle.shape.specs.Shapes.{cells}
use Rattle.pack.specs.Packs.{pack_size}
use Rattle.pack.specs.Reading.{job_of}
use Rattle.pack.proofs.Sound.{JobSound, sound-sent, job-sound}
use Rattle.pack_writer.proofs.Outcomes.{air-passed, air-wrote}
use Rattle.writer.proofs.Outcomes.{file-encoded, unread-job, unfit-slices, written-job}
use Rattle.std.proofs.lemmas.Result.{err_from_is_err_and}
use Rattle.writer.proofs.write_pack.Goals as goal
use Rattle.writer.proofs.write_pack.Goals.{In_ok-slices_fit, In_ok-h}

-- ---- the job that was read, and the lengths of the slices

read : (c : In_ok-h) → job_of c.args.job.now ≡ passes (c.in_ok-h.h, c.in_ok-h.file)
read c = value-passed _ _ _ c.read_job.ensures c.in_ok-h.was

sound : (c : In_ok-h) → JobSound c.args.job.now c.in_ok-h.h c.in_ok-h.file
sound c = job-sound _ _ _ (read c)

fits :
    (c : In_ok-slices_fit) →
    let h = c.in_ok-h.h in
    (length c.args.cube.now ≡ h.shape.w * cells h.shape) × (length c.args.output.now ≡ pack_size h)
fits c =
    let (_, bytes, size) = air-passed _ _ _ (value-passed _ _ _ c.slices_fit.ensures c.in_ok-slices_fit.was) in
    (bytes, size)

-- ---- the needs

pub returns-in_err-slices_fit : goal.returns-in_err-slices_fit
returns-in_err-slices_fit c =
    let (f, is, same) = err_from_is_err_and c.from_residual-in_err-slices_fit.result c.from_residual-in_err-slices_fit.ensures.1 in
    let job = (goal.at.returns-in_err-slices_fit c).In_ok-h in
    rw (is, same) (unfit-slices _ _ _ _ _ _ (read job) (sound job).header _ (value-refused _ _ _ c.slices_fit.ensures c.in_err-slices_fit.was))

pub lay_file-requires : goal.lay_file-requires
lay_file-requires c =
    let job = sound (goal.at.lay_file-requires c).In_ok-h in
    (job, record { valid = job.header.valid; size = (fits (goal.at.lay_file-requires c).In_ok-slices_fit).0 })

pub returns-in_err-h : goal.returns-in_err-h
returns-in_err-h c =
    let (f, is, same) = err_from_is_err_and c.from_residual.result c.from_residual.ensures.1 in
    rw (is, same) (unread-job _ _ _ _ _ (value-refused _ _ _ c.read_job.ensures c.in_err-h.was))

pub returns : goal.returns
returns c =
    let job = sound (goal.at.returns c).In_ok-h in
    let (bytes, size) = fits (goal.at.returns c).In_ok-slices_fit in
    let cube = file-encoded _ _ _ job _ _ _ primitive (c.lay_file.auto.cube ∙ bytes)
    (λ (i : ℕ). omega (arith, c.slice_known-3-1.given i)) c.lay_file.ensures c.complete.ensures in
    written-job _ _ _ _ _ _ (read (goal.at.returns c).In_ok-h) job.header _ _ bytes size
    (record {
      cube = cube;
      pack = air-wrote _ _ _ _ _ c.write_air.ensures (sound-sent _ job.header) cube.code.size size;
    })
