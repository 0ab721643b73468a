-- The flags after a filling: they are valid where those before it were, and the cells still missing determine them.
use mathlib.Core.Path.{◌≡◌, refl, sym, ◌∙◌}
use mathlib.Core.Bool.{true, false, true≢false}
use mathlib.Core.List.{List}
use mathlib.Core.Logic.{⊎_elim}
use Prim.Native.Nat.{ℕ, ◌≤◌, ◌<◌}
use native.Mathlib.Omega.{arith}
use lib.ListN.{length, get_or}
use lib.Seq.{ext_get_or}
use Rattle.shape.specs.Flags.{missing, flags_valid}
use Rattle.shape.proofs.Missing.{valid-flag, flags-valid, one-missing}
use Rattle.stopping.proofs.Number.{true-or-false}
use Rattle.fill.specs.Fill.{Flagged}

pub flagged-valid : {fs fs' : List ℕ} → flags_valid fs ≡ true → Flagged fs fs' → flags_valid fs' ≡ true
flagged-valid {fs} {fs'} v f = flags-valid fs' (λ n l. low n)
  where
    low : (n : ℕ) → get_or fs' n 0 ≤ 2
    low n =
        ⊎_elim
        (λ (e : missing fs n ≡ true).
        ⊎_elim (λ (m : missing fs' n ≡ true). omega (arith, one-missing fs' n m))
        (λ (m : missing fs' n ≡ false). omega (arith, f.filled n e m)) (true-or-false (missing fs' n)))
        (λ (e : missing fs n ≡ false). omega (arith, f.known n e, valid-flag fs v n)) (true-or-false (missing fs n))

-- flags that stay as they are
pub flagged-refl : (fs : List ℕ) → Flagged fs fs
flagged-refl fs = record { size = refl; known = λ n e. refl; filled = λ n e m. absurd (true≢false (sym e ∙ m)) }

pub flagged-unique : {fs gs hs : List ℕ} → Flagged fs gs → Flagged fs hs → ((n : ℕ) → n < length fs → missing gs n ≡ missing hs n) → gs ≡ hs
flagged-unique {fs} {gs} {hs} g h same =
    ext_get_or 0 gs hs (g.size ∙ sym h.size)
    (λ n l.
    ⊎_elim (λ (e : missing fs n ≡ true). once-missing n e (same n (omega (arith, g.size))))
    (λ (e : missing fs n ≡ false). g.known n e ∙ sym (h.known n e)) (true-or-false (missing fs n)))
  where
    once-missing : (n : ℕ) → missing fs n ≡ true → missing gs n ≡ missing hs n → get_or gs n 0 ≡ get_or hs n 0
    once-missing n e s =
        ⊎_elim (λ (m : missing gs n ≡ true). one-missing gs n m ∙ sym (one-missing hs n (sym s ∙ m)))
        (λ (m : missing gs n ≡ false). g.filled n e m ∙ sym (h.filled n e (sym s ∙ m))) (true-or-false (missing gs n))
