-- `begin` makes every cell missing, and then the unsent ones known and 00h.
use mathlib.Core.Path.{ap, ◌∙◌}
use Prim.Native.Nat.{ℕ}
use native.Mathlib.Omega.{arith}
use lib.ListN.{replicate}
use Rattle.receiver.proofs.Beginning.{used_le, marked-none}
use Rattle.receiver.proofs.placing.begin.Goals as goal

pub overflow_mul-h : goal.overflow_mul-h
overflow_mul-h c =
    omega (arith, used_le c.args.h c.requires.0.valid c.requires.2)

pub returns : goal.returns
returns c s =
    let missing = c.fill.ensures.after (λ y e. e) ∙ ap (λ (k : ℕ). replicate k 1) c.requires.1 in
    marked-none _ s c.requires.0.valid _ _ _ _ _ _ c.requires.0.size missing c.set_data.ensures c.set_data-2.ensures
