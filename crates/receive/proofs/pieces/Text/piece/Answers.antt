-- `receive::pieces::Text::piece` meets its contract. Assumes nothing.
use mathlib.Core.Path.{◌≡◌, refl, sym, ◌∙◌}
use Prim.Native.Nat.{ℕ, zero, suc, ◌<◌}
use native.Mathlib.Omega.{arith}
use Rattle.receive.specs.Pieces.{piece}
use Rattle.receive.proofs.Endings.{texts-fit}
use Rattle.receive.proofs.Whole.{run-begins, piece-run}
use Rattle.receive.proofs.pieces.Text.piece.Goals as goal

ne-zero : (k : ℕ) → (k ≡ 0 → ⊥) → 0 < k
ne-zero zero h = absurd (h refl)
ne-zero (suc k) h = omega arith

pub returns-then-k-eq0 : goal.returns-then-k-eq0
unfolding piece
returns-then-k-eq0 c = rw c.if-k-eq0.true c.opening.ensures

pub overflow_mul-k : goal.overflow_mul-k
overflow_mul-k c = omega (arith, run-begins _ _ (ne-zero _ c.if-k-eq0.false) c.requires.1, texts-fit _ c.args.self.now.fits)

pub run-requires : goal.run-requires
run-requires c = (c.requires.0, omega (arith, run-begins _ _ (ne-zero _ c.if-k-eq0.false) c.requires.1))

pub returns : goal.returns
returns c =
    let n = ne-zero _ c.if-k-eq0.false in
    record {
      prefix_len = c.run.ensures.prefix_len;
      out_after = c.run.ensures.out_after ∙ sym (piece-run _ _ _ _ n);
    }
