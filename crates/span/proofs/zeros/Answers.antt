-- `zeros` joins the bytes in one, which is 00h exactly when all are.
use mathlib.Core.Path.{◌≡◌, sym, ◌∙◌}
use mathlib.Core.List.{List}
use Prim.Native.Nat.{ℕ, ◌+◌, ◌≤◌}
use native.Mathlib.Omega.{arith}
use lib.Dec.{eqb}
use lib.ListN.{length, take, drop}
use Rattle.span.specs.Decision.{Decides}
use Rattle.span.specs.Span.{ZeroBytes}
use Rattle.span.proofs.Decision.{decides_eq}
use Rattle.span.proofs.Joining.{Joined, joined-more}
use Rattle.span.proofs.Parts.{part-byte, part-length}
use Rattle.span.proofs.zeros.Invariants.{Zero}
use Rattle.span.proofs.zeros.Goals as goal

zeros-joined : (xs us : List ℕ) (at n i any : ℕ) → at + n ≤ length xs → us ≡ take n (drop at xs) → i ≡ length us → Joined (Zero us) i any
    → Decides (ZeroBytes xs at n) (eqb any 0)
zeros-joined xs us at n i any inside eu all j =
    let size : i ≡ n = rw eu at all ∙ part-length xs at n inside in
    decides_eq _ _ (λ h. j.zero (λ k l. rw eu (part-byte xs at n k (omega arith) ∙ h.bytes k (omega arith))))
    (λ e. record { inside = inside; bytes = λ k l. sym (part-byte xs at n k l) ∙ (rw eu at (j.all e k (omega arith))) })

pub loop-x-preserved : goal.loop-x-preserved
loop-x-preserved c = joined-more _ _ _ _ c.loop-x.invariant (λ e. e) (λ e. e)

pub returns : goal.returns
returns c = zeros-joined _ _ _ _ _ _ c.in-Some.ensures.0 c.in-Some.ensures.1 (omega arith) c.loop-x.invariant
