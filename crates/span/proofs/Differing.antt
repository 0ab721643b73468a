-- Spans that lie inside and do not agree differ at a byte, and a span that is not all 00h has a byte that is not.
use mathlib.Core.Path.{◌≡◌}
use mathlib.Core.Bool.{Bool, false}
use mathlib.Core.List.{List}
use mathlib.Core.Logic.{◌≢◌}
use Prim.Native.Nat.{ℕ, zero, suc, ◌+◌, ◌≤◌, ◌<◌}
use native.Mathlib.Decide.{ℕ_discrete}
use native.Mathlib.Omega.{arith}
use lib.ListN.{length, get_or}
use Rattle.span.specs.Decision.{Decides}
use Rattle.span.specs.Span.{BothInside, SameBytes, ZeroBytes}
use Rattle.span.proofs.Decision.{decides-false}

-- two functions that do not agree below n differ at a number below n
differing : (x y : ℕ → ℕ) (n : ℕ) → (((i : ℕ) → i < n → x i ≡ y i) → ⊥) → (i : ℕ) × (i < n) × (x i ≢ y i)
differing x y zero never = absurd (never (λ i l. absurd (omega arith)))
differing x y (suc n) never =
    elim (ℕ_discrete (x n) (y n)) [
      | yes here ↦
          let (i, l, ne) =
          differing x y n (λ before. never (λ i l. elim (ℕ_discrete i n) [ yes e ↦ rw e here | no ne ↦ before i (omega arith) ]))
          in
          (i, omega arith, ne)
      | no ne ↦ (n, omega arith, ne)
    ]

pub differing-byte : (xs ys : List ℕ) (from to n : ℕ) (answer : Bool) → Decides (SameBytes xs from ys to n) answer → BothInside xs from ys to n
    → answer ≡ false → (i : ℕ) × (i < n) × (get_or xs (from + i) 0 ≢ get_or ys (to + i) 0)
differing-byte xs ys from to n answer d inside e =
    differing (λ i. get_or xs (from + i) 0) (λ i. get_or ys (to + i) 0) n
    (λ same. decides-false d e (record { inside = inside; bytes = same }))

pub nonzero-byte : (xs : List ℕ) (at n : ℕ) (answer : Bool) → Decides (ZeroBytes xs at n) answer → at + n ≤ length xs → answer ≡ false
    → (i : ℕ) × (i < n) × (get_or xs (at + i) 0 ≢ 0)
nonzero-byte xs at n answer d inside e =
    differing (λ i. get_or xs (at + i) 0) (λ i. 0) n (λ same. decides-false d e (record { inside = inside; bytes = same }))
