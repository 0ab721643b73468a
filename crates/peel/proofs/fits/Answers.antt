-- `peel::fits` tells whether cube and flags have the lengths of a valid shape.
use Rattle.std.proofs.Common.{rules}
use Rattle.peel.proofs.Sizing.{sized-decided}
use Rattle.peel.proofs.fits.Goals as goal

pub returns : goal.returns
returns c = sized-decided _ _ _ _ _ c.measure.ensures (λ z p. search rules) c.is_ok_and.ensures
