-- `pack::packets::Packets::parts` meets its contract. Assumes nothing.
use mathlib.Core.Path.{sym, ◌∙◌}
use native.Mathlib.Omega.{arith}
use Rattle.pack.proofs.Naming.{limits-parts, parts-beyond-limits, parts-beyond-pack, parts-stand}
use Rattle.pack.proofs.packets.Packets.parts.Goals as goal

pub returns-then-not-within_limits : goal.returns-then-not-within_limits
returns-then-not-within_limits c = parts-beyond-limits _ _ _ _ (sym c.within_limits.ensures ∙ c.if-not-within_limits.true)

pub overflow_add-size : goal.overflow_add-size
overflow_add-size c = omega (arith, (limits-parts _ (sym c.within_limits.ensures ∙ c.if-not-within_limits.false)).w_high)

pub returns-then-not-lies_in : goal.returns-then-not-lies_in
returns-then-not-lies_in c = parts-beyond-pack _ _ _ _ (c.lies_in.ensures.1 c.if-not-lies_in.true)

pub returns : goal.returns
returns c =
    parts-stand _ _ _ _ (sym c.within_limits.ensures ∙ c.if-not-within_limits.false) (c.lies_in.ensures.0 c.if-not-lies_in.false)
