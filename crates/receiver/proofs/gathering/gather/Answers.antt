-- `gather` checks every index, then places the packets, then fills.
use Rattle.pack.proofs.Naming.{air-named, outside-some, outside-none}
use Rattle.pack.proofs.Sound.{air-sound}
use Rattle.receiver.specs.Inner.Placing.{AllNamed}
use Rattle.receiver.proofs.Outcomes.{gathered-index, gathered-contradiction, gathered-filled}
use Rattle.receiver.proofs.gathering.gather.Goals as goal
use Rattle.receiver.proofs.gathering.gather.Goals.{In_default}

-- every packet stands in the pack and names a cell
named : (c : In_default) → AllNamed c.args.packets.now
named c = (outside-none _ _ _ _ c.first_outside.ensures c.in_default.is).before

pub returns-in-Some : goal.returns-in-Some
returns-in-Some c =
    let (first, less) = outside-some _ _ _ _ _ c.first_outside.ensures c.in-Some.is in
    λ checks accepted.
    gathered-index _ checks _ _ _ _ accepted _ less
    (λ range. first.here less (air-named _ _ _ _ c.requires.air less range))
    (λ j l. (first.before j l).range)

pub place-counts-requires : goal.place-counts-requires
place-counts-requires c =
    let fits = c.requires in
    (named (goal.at.place-counts-requires c).In_default, fits.cube, fits.flags_size, (air-sound _ _ _ fits.air).header.most)

pub returns-in_default-fill : goal.returns-in_default-fill
returns-in_default-fill c =
    λ checks accepted.
    gathered-contradiction _ checks _ _ _ _ accepted _ _ _ _
    (record { indexes = λ i l. (named (goal.at.returns-in_default-fill c).In_default i l).range; placed = c.place-counts.ensures.0 })
    _ c.fill.ensures _ c.requires.cube.valid c.in_default-fill.is

pub returns : goal.returns
returns c =
    λ checks accepted.
    gathered-filled _ checks _ _ _ _ accepted _ _ _ _
    (record { indexes = λ i l. (named (goal.at.returns c).In_default i l).range; placed = c.place-counts.ensures.0 })
    _ c.fill.ensures _ _ c.in-Ok.is c.place-counts.ensures.1
