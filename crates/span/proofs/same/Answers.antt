-- `same` joins the differences in one byte, which is 00h exactly when all are.
use mathlib.Core.Path.{◌≡◌, sym, ◌∙◌}
use mathlib.Core.List.{List}
use Prim.Native.Nat.{ℕ}
use native.Mathlib.Omega.{arith}
use lib.Dec.{eqb}
use lib.ListN.{take, drop}
use Rattle.span.specs.Decision.{Decides}
use Rattle.span.specs.Span.{BothInside, SameBytes}
use Rattle.span.proofs.Decision.{decides_eq}
use Rattle.span.proofs.Joining.{Joined, joined-more, xor-zero, xor_same}
use Rattle.span.proofs.Parts.{part-byte}
use Rattle.span.proofs.same.Invariants.{Agree}
use Rattle.span.proofs.same.Goals as goal

same-joined : (xs ys us vs : List ℕ) (from to n i any : ℕ) → BothInside xs from ys to n → us ≡ take n (drop from xs) → vs ≡ take n (drop to ys)
    → i ≡ n → Joined (Agree us vs) i any → Decides (SameBytes xs from ys to n) (eqb any 0)
same-joined xs ys us vs from to n i any inside eu ev all j =
    decides_eq _ _
    (λ h. j.zero (λ k l. rw (eu, ev) (part-byte xs from n k (omega arith) ∙ h.bytes k (omega arith) ∙ sym (part-byte ys to n k (omega arith)))))
    (λ e. record {
      inside = inside;
      bytes = λ k l. sym (part-byte xs from n k l) ∙ (rw (eu, ev) at (j.all e k (omega arith))) ∙ part-byte ys to n k l;
    })

pub loop-i-preserved : goal.loop-i-preserved
loop-i-preserved c = joined-more _ _ _ _ c.loop-i.invariant (xor-zero _ _) (xor_same _ _)

pub returns : goal.returns
returns c =
    let one = c.in-Some-Some.ensures in
    let two = c.in-Some-Some.ensures' in
    same-joined _ _ _ _ _ _ _ _ _ (one.0, two.0) one.1 two.1 (omega arith) c.loop-i.invariant
