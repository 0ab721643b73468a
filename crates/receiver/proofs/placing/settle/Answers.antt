-- `receiver::placing::settle` makes marked cells missing and counts them.
use mathlib.Core.Path.{◌≡◌, sym, ap, ◌∙◌}
use mathlib.Core.Logic.{◌≢◌, ◌⊎◌, inl, inr}
use Prim.Native.Nat.{◌+◌}
use native.Mathlib.Numerals.{add-one}
use native.Mathlib.Omega.{arith}
use lib.ListN.{get_or, set}
use lib.Seq.{set-get_or}
use borrow.Author.Tests.{eq-eqb, ne_eqb}
use Rattle.shape.specs.Inner.Marks.{is_marked}
use Rattle.shape.proofs.Marks.{RemarkedTo, remarked-none, remarked-flag, remarked-turn}
use Rattle.stopping.specs.Stopping.{number}
use Rattle.stopping.proofs.Number.{number-nil, number-le, number_in, number-out}
use Rattle.receiver.proofs.placing.settle.Goals as goal
use Rattle.receiver.proofs.placing.settle.Goals.{Joined-flag-eq-MARKED, then-flag-eq-MARKED, else-flag-eq-MARKED}

-- one flag more counts where it is marked as the flags are by then
counted-in : (v m : _) (fs gs : _) → RemarkedTo v m fs gs → get_or gs m 0 ≡ 3 → number (is_marked fs) (m + 1) ≡ number (is_marked fs) m + 1
unfolding is_marked
counted-in v m fs gs r e =
    ap (number (is_marked fs)) (add-one m) ∙ number_in (is_marked fs) m (sym (remarked-flag v fs m gs r) ∙ eq-eqb _ _ e)

counted-out : (v m : _) (fs gs : _) → RemarkedTo v m fs gs → get_or gs m 0 ≢ 3 → number (is_marked fs) (m + 1) ≡ number (is_marked fs) m
unfolding is_marked
counted-out v m fs gs r ne =
    ap (number (is_marked fs)) (add-one m) ∙ number-out (is_marked fs) m (sym (remarked-flag v fs m gs r) ∙ ne_eqb _ _ ne)

turn :
    (c : Joined-flag-eq-MARKED) →
    ((get_or c.loop-flag.flags c.loop-flag.flag-index 0 ≡ 3)
    × (c.if-flag-eq-MARKED.flags ≡ set c.loop-flag.flags c.loop-flag.flag-index 1))
    ⊎ ((get_or c.loop-flag.flags c.loop-flag.flag-index 0 ≢ 3)
    × (c.if-flag-eq-MARKED.flags ≡ c.loop-flag.flags))
turn c = elim c.if-flag-eq-MARKED.branch [ then-flag-eq-MARKED w ↦ inl (w.if-flag-eq-MARKED.true, w.flags-is) | else-flag-eq-MARKED w ↦ inr (w.if-flag-eq-MARKED.false, w.flags-is ∙ set-get_or _ _ _) ]

pub loop-flag-init : goal.loop-flag-init
loop-flag-init c = (omega arith, remarked-none 1 _, sym (number-nil _))

pub overflow_add-conflicts : goal.overflow_add-conflicts
overflow_add-conflicts c =
    let l = c.loop-flag in
    omega (arith, l.invariant.2, number-le (is_marked c.args.flags.now) l.flag-index)

pub loop-flag-preserved : goal.loop-flag-preserved
loop-flag-preserved c =
    let l = c.loop-flag in (
      omega arith,
      remarked-turn 1 _ _ _ _ l.invariant.1 (omega (arith, l.invariant.1.size)) (turn (goal.at.loop-flag-preserved c).Joined-flag-eq-MARKED),
      elim c.if-flag-eq-MARKED.branch [
        | then-flag-eq-MARKED w ↦ omega (arith, w.conflicts-is, l.invariant.2, counted-in 1 _ _ _ l.invariant.1 w.if-flag-eq-MARKED.true)
        | else-flag-eq-MARKED w ↦ omega (arith, w.conflicts-is, l.invariant.2, counted-out 1 _ _ _ l.invariant.1 w.if-flag-eq-MARKED.false)
      ],
    )
