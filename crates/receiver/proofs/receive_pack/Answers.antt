-- `receive_pack` reads the pack, checks the slices, gathers, and opens the file of a whole cube.
use Rattle.std.specs.Prelude.{Err}
use Rattle.std.proofs.lemmas.Result.{err_from_is_err_and}
use mathlib.Core.Path.{◌≡◌, ap, ◌∙◌}
use Rattle.answer.specs.Values.{passes}
use Rattle.answer.proofs.Values.{value-passed}
use Rattle.shape.specs.Shapes.{sizes}
use Rattle.pack.proofs.Sound.{air-sound}
use Rattle.receiver.specs.Receive.{lent, receive_checked}
use Rattle.receiver.proofs.Outcomes.{accepted-ready, received-refused, received-sizes, received-accepted, received-ended, received-left, received-file, received-bad}
use Rattle.receiver.proofs.receive_pack.Goals as goal
use Rattle.receiver.proofs.receive_pack.Goals.{Else-not-slices_fit}

-- the pack passes every check down to 4
accepted : (c : Else-not-slices_fit) → receive_checked c.args.air.now (lent c.args.cube.now c.args.flags.now c.args.buffer.now)
    ≡ passes (c.in_ok-header.header, c.in_ok-header.section)
accepted c =
    received-accepted _ _ _ _ _ c.read_air.ensures _ _ c.in_ok-header.was _ c.slices_fit.ensures c.if-not-slices_fit.false

pub returns-in_err-header : goal.returns-in_err-header
returns-in_err-header c =
    let (f, is, same) = err_from_is_err_and c.from_residual.result c.from_residual.ensures.1 in
    received-refused _ _ _ _ _ c.read_air.ensures _ _ c.in_err-header.was (is ∙ ap Err same)

pub slices_fit-requires : goal.slices_fit-requires
unfolding sizes
slices_fit-requires c =
    let sound = air-sound _ _ _ (value-passed _ _ _ c.read_air.ensures c.in_ok-header.was) in
    rw sound.header.measured sound.header.room

pub returns-then-not-slices_fit : goal.returns-then-not-slices_fit
returns-then-not-slices_fit c =
    received-sizes _ _ _ _ _ c.read_air.ensures _ _ c.in_ok-header.was _ c.slices_fit.ensures c.if-not-slices_fit.true

pub gather-requires : goal.gather-requires
gather-requires c =
    let ready = accepted-ready _ _ _ _ (accepted (goal.at.gather-requires c).Else-not-slices_fit) in
    record { air = ready.air; cube = record { valid = ready.valid; size = ready.cube_size }; flags_size = ready.flags_size }

pub returns-in_err-left : goal.returns-in_err-left
returns-in_err-left c =
    let (f, is, same) = err_from_is_err_and c.from_residual-in_err-left.result c.from_residual-in_err-left.ensures.1 in
    received-ended _ _ _ _ _ _ (accepted (goal.at.returns-in_err-left c).Else-not-slices_fit) _ _ _ c.gather.ensures _ _ c.in_err-left.was (is ∙ ap Err same)

pub returns-then-left-ne0 : goal.returns-then-left-ne0
returns-then-left-ne0 c =
    received-left _ _ _ _ _ _ (accepted (goal.at.returns-then-left-ne0 c).Else-not-slices_fit) _ _ _ c.gather.ensures _ _ c.in_ok-left.was c.if-left-ne0.true

pub open-requires : goal.open-requires
open-requires c =
    let ready = accepted-ready _ _ _ _ (accepted (goal.at.open-requires c).Else-not-slices_fit) in
    (record { valid = ready.valid; size = c.gather.auto.cube ∙ ready.cube_size }, ready.room, ready.buffer_size)

pub returns-in_err-length : goal.returns-in_err-length
returns-in_err-length c =
    let (f, is, same) = err_from_is_err_and c.from_residual-in_err-length.result c.from_residual-in_err-length.ensures.1 in
    received-bad _ _ _ _ _ _ (accepted (goal.at.returns-in_err-length c).Else-not-slices_fit) _ _ _ c.gather.ensures _ _ c.in_ok-left.was c.if-left-ne0.false
    _ _ c.«open».ensures _ _ c.in_err-length.was (is ∙ ap Err same)

pub returns : goal.returns
returns c =
    received-file _ _ _ _ _ _ (accepted (goal.at.returns c).Else-not-slices_fit) _ _ _ c.gather.ensures _ _ c.in_ok-left.was c.if-left-ne0.false
    _ _ c.«open».ensures _ c.in_ok-length.was
