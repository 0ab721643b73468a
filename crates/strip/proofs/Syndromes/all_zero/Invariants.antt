-- `strip::Syndromes::all_zero` decides whether both lists begin with zeros: an or is 0 exactly when both sides are.
use mathlib.Core.Path.{◌≡◌}
use lib.ListN.{get_or}
use Rattle.span.proofs.Joining.{Joined}
use Rattle.strip.proofs.Syndromes.all_zero.Given as goal

abbrev pub invariant-loop-t : goal.invariant-loop-t
invariant-loop-t g l =
    Joined (λ i. (get_or l.self.first i 0 ≡ 0) × (get_or l.self.second i 0 ≡ 0)) l.t l.any
