-- `peel::peel` starts its sweeps with no line quiet, where cube and flags have the lengths of a valid shape.
use mathlib.Core.Path.{◌≡◌, refl}
use mathlib.Core.List.{List}
use Prim.Native.Nat.{ℕ}
use borrow.Author.Rules.{rules}
use Rattle.shape.specs.declared.Shape.{Shape}
use Rattle.span.proofs.Decision.{decides-false, decides-true, cases_done, cases-refused}
use Rattle.peel.specs.Peel.{Sized, Peeled}
use Rattle.peel.proofs.Awake.{calm-first}
use Rattle.peel.proofs.peel.Goals as goal
use Rattle.peel.proofs.peel.Goals.{Else-not-fits}

sized : (c : Else-not-fits) → Sized c.args.sh c.args.cube.now c.args.flags.now
sized c = decides-true c.fits.ensures c.if-not-fits.false

pub returns-then-not-fits : goal.returns-then-not-fits
returns-then-not-fits c = cases-refused (decides-false c.fits.ensures c.if-not-fits.true) (refl, refl, refl)

pub sweeps-requires : goal.sweeps-requires
sweeps-requires c = calm-first _ _

-- what the slices hold once they are given back
moved : {r : ℕ} {sh : Shape} {xs fs ys gs zs hs : List ℕ} → Peeled r sh xs fs ys gs → zs ≡ ys → hs ≡ gs → Peeled r sh xs fs zs hs
moved p e f = rw (e, f) p

pub returns : goal.returns
returns c = cases_done (sized (goal.at.returns c).Else-not-fits) (refl, moved c.sweeps.ensures.peeled (search rules) (search rules))
