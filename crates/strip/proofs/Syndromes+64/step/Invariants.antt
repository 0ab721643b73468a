-- `strip::Syndromes::step` takes one of Horner's steps for 64 lines.
use mathlib.Core.Path.{◌≡◌}
use lib.ListN.{length, get_or}
use Rattle.field.specs.Field.{add, xtime}
use Rattle.strip.proofs.Updated.{Updated}
use Rattle.strip.proofs.Syndromes+64.step.Given as goal

abbrev pub invariant-loop-t : goal.invariant-loop-t
invariant-loop-t l =
    (length l.self.first ≡ length l.initial.self.first)
    × (length l.self.second ≡ length l.initial.self.second)
    × (length l.initial.self.first ≡ 64 → Updated (λ p x. add x (get_or l.c p 0)) 0 l.t l.initial.self.first l.self.first)
    × (length l.initial.self.second ≡ 64 → Updated (λ p x. add (xtime l.reduction x) (get_or l.c p 0)) 0 l.t l.initial.self.second l.self.second)
