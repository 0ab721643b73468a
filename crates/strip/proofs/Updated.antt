-- A list of which each byte from one place on is made anew from what stood there: one more place serves every such loop.
use mathlib.Core.Path.{◌≡◌, refl, ap, ◌∙◌}
use mathlib.Core.List.{List}
use mathlib.Core.Logic.{◌⊎◌, inl, inr, ⊎_elim}
use Prim.Native.Nat.{ℕ, ◌+◌, ◌≤◌, ◌<◌}
use native.Mathlib.Decide.{ℕ_discrete}
use native.Mathlib.Omega.{arith}
use lib.ListN.{length, get_or, set, length-set}
use lib.Seq.{get_or-set_same, get_or-set_other}

-- `after` is `before` with g p x in the place of x at each place p from lo up to hi.
pub record Updated (g : ℕ → ℕ → ℕ) (lo hi : ℕ) (before after : List ℕ) : Type 0 where
  pub size : length after ≡ length before
  pub done : (p : ℕ) → lo ≤ p → p < hi → get_or after p 0 ≡ g p (get_or before p 0)
  pub kept : (p : ℕ) → (p < lo) ⊎ (hi ≤ p) → get_or after p 0 ≡ get_or before p 0

pub updated_none : (g : ℕ → ℕ → ℕ) (lo hi : ℕ) (l : List ℕ) → hi ≡ lo → Updated g lo hi l l
updated_none g lo hi l e =
    record { size = refl; done = λ p a b. absurd (omega arith); kept = λ p h. refl }

pub updated-more :
    {g : ℕ → ℕ → ℕ} {lo hi : ℕ} {before after : List ℕ} → Updated g lo hi before after → (v next : ℕ) →
    lo ≤ hi → hi < length before → v ≡ g hi (get_or after hi 0) → next ≡ hi + 1 →
    Updated g lo next before (set after hi v)
updated-more {g} {lo} {hi} {before} {after} u v next below inside e n =
    record {
      size = length-set after hi v ∙ u.size;
      done =
          λ p a b. elim (ℕ_discrete p hi) [
            | yes q ↦ rw q (get_or-set_same after hi v 0 (omega (arith, u.size)) ∙ e ∙ ap (g hi) (u.kept hi (inr (omega arith))))
            | no q ↦ get_or-set_other after hi p v 0 q ∙ u.done p a (omega arith)
          ];
      kept =
          λ p o. get_or-set_other after hi p v 0 (⊎_elim (λ (x : p < lo). (λ q. omega arith)) (λ (x : next ≤ p). (λ q. omega arith)) o)
          ∙ u.kept p (⊎_elim (λ (x : p < lo). inl x) (λ (x : next ≤ p). inr (omega arith)) o);
    }
