-- One more byte of a span is written, whatever the bytes are to be: one law for every loop that goes byte by byte.
use mathlib.Core.Path.{◌≡◌, sym, ap, ◌∙◌}
use mathlib.Core.List.{List}
use Prim.Native.Nat.{ℕ, ◌+◌, ◌<◌}
use native.Mathlib.Decide.{ℕ_discrete}
use native.Mathlib.Omega.{arith}
use lib.ListN.{length, get_or, set}
use lib.Seq.{get_or-set_same, get_or-set_other}

pub written-more : (f : ℕ → ℕ) (l : List ℕ) (at n p v : ℕ) → p ≡ at + n → v ≡ f n → p < length l
    → ((i : ℕ) → i < n → get_or l (at + i) 0 ≡ f i) → (i : ℕ) → i < n + 1 → get_or (set l p v) (at + i) 0 ≡ f i
written-more f l at n p v place byte room h i less =
    elim (ℕ_discrete i n) [
      | yes e ↦
          let here : at + i ≡ p = omega arith in
          rw here (get_or-set_same l p v 0 room) ∙ byte ∙ ap f (sym e)
      | no ne ↦ get_or-set_other l p (at + i) v 0 (omega arith) ∙ h i (omega arith)
    ]
