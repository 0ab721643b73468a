-- All syndromes are 0 exactly when all lines are codewords.
use mathlib.Core.Path.{sym, ◌∙◌}
use mathlib.Core.List.{List}
use Prim.Native.Nat.{ℕ, ◌<◌}
use Rattle.strip.specs.Strip.{AllZero}
use Rattle.line.specs.declared.Run.{Run}
use Rattle.line.specs.Line.{Codeword}
use Rattle.line.specs.Run.{line_at}
use Rattle.line.specs.Inner.Block.{Syndromes}

-- all lines are codewords exactly when all their syndromes are 0
module _ {r : ℕ} {run : Run} {s s0 s1 : List ℕ} (sy : Syndromes r run s s0 s1) where
  pub zeros-codewords :
      AllZero run.width s0 s1 → (t : ℕ) → t < run.width → Codeword r (line_at s run t) run.len
  zeros-codewords z t h =
      record { first = sym (sy.first t h) ∙ z.first t h; second = sym (sy.second t h) ∙ z.second t h }

  pub codewords-zeros :
      ((t : ℕ) → t < run.width → Codeword r (line_at s run t) run.len) → AllZero run.width s0 s1
  codewords-zeros w =
      record { first = λ t h. sy.first t h ∙ (w t h).first; second = λ t h. sy.second t h ∙ (w t h).second }
