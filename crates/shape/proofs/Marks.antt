-- The marks among flags given a value one after the other.
use mathlib.Core.Path.{◌≡◌, refl, sym, ap, ◌∙◌}
use mathlib.Core.Bool.{true, false}
use mathlib.Core.List.{List}
use mathlib.Core.Logic.{◌≢◌, ◌⊎◌, ⊎_elim}
use Prim.Native.Nat.{ℕ, ◌+◌, ◌≤◌, ◌<◌}
use native.Mathlib.Decide.{ℕ_discrete}
use native.Mathlib.Omega.{arith}
use borrow.Author.Tests.{eqb-true, eqb-false}
use lib.Dec.{eqb}
use lib.ListN.{length, get_or, set, length-set}
use lib.Seq.{get_or-set_same, get_or-set_other}
use Rattle.shape.specs.Inner.Marks.{is_marked, Remarked}

-- the marks below `bound` have become v, all other flags are as they were
pub record RemarkedTo (v bound : ℕ) (fs gs : List ℕ) : Type 0 where
  pub size : length gs ≡ length fs
  pub marks : (n : ℕ) → n < bound → is_marked fs n ≡ true → get_or gs n 0 ≡ v
  pub others : (n : ℕ) → is_marked fs n ≡ false → get_or gs n 0 ≡ get_or fs n 0
  pub later : (n : ℕ) → bound ≤ n → get_or gs n 0 ≡ get_or fs n 0

module _ (v : ℕ) (fs : List ℕ) where
  pub remarked-none : RemarkedTo v 0 fs fs
  remarked-none =
      record { size = refl; marks = λ n l e. absurd (omega arith); others = λ n e. refl; later = λ n l. refl }

  -- the next flag, as the flags are by then
  pub remarked-flag : (n : ℕ) (gs : List ℕ) → RemarkedTo v n fs gs → is_marked gs n ≡ is_marked fs n
  unfolding is_marked
  remarked-flag n gs h = ap (λ (f : ℕ). eqb f 3) (h.later n (omega arith))

  pub remarked-skip : (n : ℕ) (gs : List ℕ) → RemarkedTo v n fs gs → get_or gs n 0 ≢ 3 → RemarkedTo v (n + 1) fs gs
  unfolding is_marked
  remarked-skip n gs h ne =
      record {
        size = h.size;
        marks = λ m l e.
            elim (ℕ_discrete m n) [
              | yes g ↦ absurd (ne (h.later n (omega arith) ∙ ap (λ (k : ℕ). get_or fs k 0) (sym g) ∙ eqb-true (get_or fs m 0) 3 e))
              | no d ↦ h.marks m (omega arith) e
            ];
        others = h.others;
        later = λ m l. h.later m (omega arith);
      }

  pub remarked-more : (n : ℕ) (gs : List ℕ) → RemarkedTo v n fs gs → n < length gs → get_or gs n 0 ≡ 3 → RemarkedTo v (n + 1) fs (set gs n v)
  unfolding is_marked
  remarked-more n gs h l e =
      record {
        size = length-set gs n v ∙ h.size;
        marks = λ m b f.
            elim (ℕ_discrete m n) [
              | yes g ↦ rw g (get_or-set_same gs n v 0 l)
              | no d ↦ get_or-set_other gs n m v 0 d ∙ h.marks m (omega arith) f
            ];
        others = λ m f.
            get_or-set_other gs n m v 0
            (λ g. eqb-false (get_or fs m 0) 3 f (ap (λ (k : ℕ). get_or fs k 0) g ∙ sym (h.later n (omega arith)) ∙ e))
            ∙ h.others m f;
        later = λ m b. get_or-set_other gs n m v 0 (omega arith) ∙ h.later m (omega arith);
      }

  pub remarked-all : (gs : List ℕ) → RemarkedTo v (length fs) fs gs → Remarked v fs gs
  remarked-all gs h = record { size = h.size; marks = h.marks; others = h.others }

-- one turn of a loop over flags: whether the flag was a mark or not, the flags after it are remarked one further
pub remarked-turn : (v : ℕ) (fs gs hs : List ℕ) (n : ℕ) → RemarkedTo v n fs gs → n < length gs
    → ((get_or gs n 0 ≡ 3) × (hs ≡ set gs n v)) ⊎ ((get_or gs n 0 ≢ 3) × (hs ≡ gs)) → RemarkedTo v (n + 1) fs hs
remarked-turn v fs gs hs n h l s =
    ⊎_elim (λ (w : (get_or gs n 0 ≡ 3) × (hs ≡ set gs n v)). rw w.1 (remarked-more v fs n gs h l w.0))
    (λ (w : (get_or gs n 0 ≢ 3) × (hs ≡ gs)). rw w.1 (remarked-skip v fs n gs h w.0)) s
