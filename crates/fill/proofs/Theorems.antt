-- The theorems of specs/Theorems.antt, from the laws of this crate.
use mathlib.Core.Path.{◌≡◌, refl, sym, ap, ◌∙◌}
use mathlib.Core.Logic.{inl, inr}
use Prim.Native.Nat.{ℕ, ◌<◌}
use native.Mathlib.Omega.{arith}
use Rattle.answer.specs.Values.{gives}
use Rattle.answer.proofs.Values.{gives-refused}
use Rattle.shape.specs.Shapes.{cells}
use Rattle.shape.specs.Flags.{missing}
use Rattle.stopping.proofs.Number.{number-cong, number-none}
use Rattle.stopping.proofs.Stopping.{largest-unique}
use Rattle.fill.specs.Fill.{left, Filling, fill_refused, fill_done, fill_contradiction}
use Rattle.fill.specs.Theorems.{OneFilling, MissingNotRead, FillingOrContradiction, CheckOfCube}
use Rattle.peel.specs.Peel.{Sized}
use Rattle.fill.proofs.Checks.{done-sized}
use Rattle.shape.proofs.Missing.{none-missing}
use Rattle.fill.proofs.Flagged.{flagged-refl, flagged-unique}
use Rattle.fill.proofs.Whole.{empty, code-filling, kept, filled-code}
use Rattle.fill.proofs.Unique.{filling-unique, filling-cong, done_refused, outcome-known}

pub one-filling : OneFilling
unfolding OneFilling
one-filling r p sh valid xs size M K k v u f g = filling-unique r p sh valid xs M K k v u f g size

pub missing-not-read : MissingNotRead
unfolding MissingNotRead
missing-not-read r sh xs ys fs xs' fs' value s done o = outcome-known s done o

pub filling-or-contradiction : FillingOrContradiction
unfolding FillingOrContradiction
filling-or-contradiction r p sh xs fs xs' fs' _ done (fill_refused n e x g) K k = absurd (done_refused done e)
filling-or-contradiction r p sh xs fs xs' fs' _ done (fill_done d g l u) K k = (
  (λ e. absurd (gives-refused _ 13 e), λ none. absurd (none xs' there)),
  λ w f. (
    ap (λ (n : ℕ). gives (left n)) (number-cong _ _ (cells sh) same),
    filling-unique r p sh z.valid xs (missing fs) K k xs' w there f z.bytes,
    same,
  ),
)
  where
    z : Sized sh xs fs
    z = done-sized sh xs fs d

    same : (n : ℕ) → n < cells sh → missing fs' n ≡ K n
    same = largest-unique l k

    there : Filling r sh xs (missing fs) K xs'
    there = filling-cong same u
filling-or-contradiction r p sh xs fs xs' fs' _ done (fill_contradiction d K' l none c e) K k =
    ((λ _ v f. none v (filling-cong (largest-unique k l) f), λ _. refl), λ v f. absurd (none v (filling-cong (largest-unique k l) f)))

pub check-of-cube : CheckOfCube
unfolding CheckOfCube
check-of-cube r sh xs fs xs' fs' _ done none (fill_refused n e x g) = absurd (done_refused done e)
check-of-cube r sh xs fs xs' fs' _ done none (fill_done d g k u) =
    let same = kept r sh xs fs none d xs' u.size u.known in
    let gone = empty r sh xs fs none d (missing fs') k in (
      inl (
        filled-code r sh xs fs none d (missing fs') k (rw same at u),
        ap (λ (n : ℕ). gives (left n)) (number-none (missing fs') (cells sh) gone),
      ),
      same,
      flagged-unique g (flagged-refl fs)
          (λ n l. gone n (omega (arith, (done-sized sh xs fs d).flags)) ∙ sym (none-missing fs none n)),
    )
check-of-cube r sh xs fs xs' fs' _ done none (fill_contradiction d K k wrong c e) = (
  inr (λ code. wrong xs (code-filling r sh xs fs none d K k code), refl),
  kept r sh xs fs none d xs' c.size c.known,
  e,
)
