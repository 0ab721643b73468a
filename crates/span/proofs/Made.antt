-- An array that is made from a function of the place: what stands at each place of it.
use mathlib.Core.List.{List}
use mathlib.Core.Path.{◌≡◌, subst, ◌∙◌}
use Prim.Native.Nat.{ℕ, zero, suc, ◌+◌, ◌≤◌, ◌<◌}
use native.Mathlib.Decide.{ℕ_discrete}
use native.Mathlib.Omega.{arith}
use lib.ListN.{get_or}
use denote.Param.Members.{Mut}
use Rattle.std.specs.Array.{IsFromFnResult, IsFromFnResultFrom}
use Rattle.std.specs.Fn.{Called}

module _ {F : Type 0} {g : Mut F (ℕ × Unit {0}) ℕ} (f : F) (ys : List ℕ) (h : ℕ → ℕ)
    (each : (x y : ℕ) (q : F) → Called g f (x, tt) y q → (q ≡ f) × (y ≡ h x)) where
  made-from : (i n : ℕ) → IsFromFnResultFrom g f ys i n → (k : ℕ) → i ≤ k → k < i + n → get_or ys k 0 ≡ h k
  made-from i zero m k low high = absurd (omega arith)
  made-from i (suc n) (q, y, at, called, rest) k low high =
      let (same, value) = each i y q called in
      elim (ℕ_discrete k i) [
        | yes here ↦ rw here (at.1 0 ∙ value)
        | no on ↦ made-from (i + 1) n (subst (λ p. IsFromFnResultFrom g p ys (i + 1) n) same rest) k (omega arith) (omega arith)
      ]

  pub made-at : (n : ℕ) → IsFromFnResult g f ys n → (k : ℕ) → k < n → get_or ys k 0 ≡ h k
  made-at n made k below = made-from 0 n made.each k (omega arith) (omega arith)
