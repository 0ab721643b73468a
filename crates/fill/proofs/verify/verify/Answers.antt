-- `fill::verify::verify` tells whether every line without a missing cell is a codeword in every layer: where no cell is missing, whether the
-- cube is a code cube.
use mathlib.Core.Path.{sym, ◌∙◌}
use native.Mathlib.Omega.{arith}
use Rattle.fill.proofs.Lines.{code-right}
use Rattle.fill.proofs.verify.verify.Goals as goal

pub returns-then-none_missing : goal.returns-then-none_missing
returns-then-none_missing c =
    code-right _ _ _ _ c.requires (λ p. omega (arith, c.type_inv.cube p)) (sym c.none_missing.ensures ∙ c.if-none_missing.true) _ c.is_code.ensures
