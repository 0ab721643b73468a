-- `plan_form::splices::kept` meets its contract.
use native.Mathlib.Omega.{arith}
use borrow.Author.Count.{below_more}
use mathlib.Core.Path.{◌≡◌, refl}
use Rattle.span.proofs.Decision.{decides-false, decides-true, decides-false}
use Rattle.plan_form.specs.Entries.{first_of, second_of}
use Rattle.plan_form.proofs.Joined.{marks-none, out-of-rank, joined-twice, spliced, marks-next}
use Rattle.plan_form.proofs.Walking.{stopped}
use Rattle.plan_form.proofs.splices.kept.Goals as goal
use Rattle.plan_form.proofs.splices.kept.Goals.{then-not-in_rank-via-then-not-in_rank, then-not-in_rank-via-else-not-in_rank+then-either}

pub loop-k-init : goal.loop-k-init
loop-k-init c = (refl, λ j l. absurd (omega arith), marks-none _ _ _ c.requires)

pub returns-then-not-in_rank : goal.returns-then-not-in_rank
unfolding first_of second_of
returns-then-not-in_rank c =
    let l = c.loop-k in
    stopped (omega arith) l.invariant.1
    (elim c.then-not-in_rank.branch [
      | then-not-in_rank-via-then-not-in_rank w ↦
          out-of-rank _ _ _ c.requires _ _ _ l.invariant.2 _ _ c.word-a.ensures.0 c.word-b.ensures.0 (decides-false c.in_rank.ensures w.if-not-in_rank.true)
      | then-not-in_rank-via-else-not-in_rank+then-either w ↦
          joined-twice _ _ _ c.requires _ _ _ l.invariant.2 _ _ c.word-a.ensures.0 c.word-b.ensures.0
          (decides-true c.in_rank.ensures w.if-not-in_rank.false) (rw l.invariant.0 at (w.either.ensures.yes_then w.if-either.true))
    ])

pub loop-k-preserved : goal.loop-k-preserved
unfolding first_of second_of
loop-k-preserved c =
    let l = c.loop-k in
    let kept = c.requires in
    let rank = decides-true c.in_rank.ensures c.if-not-in_rank.false in
    let first = c.word-a.ensures.0 in
    let second = c.word-b.ensures.0 in (
      rw l.invariant.0 at c.mark.ensures.0,
      below_more _ _ l.invariant.1 (spliced _ _ _ kept _ _ _ l.invariant.2 _ _ first second rank (decides-false (rw l.invariant.0 at c.either.ensures) c.if-either.false)),
      marks-next _ _ _ kept _ _ _ l.invariant.2 _ _ first second rank l.invariant.1 _ (rw l.invariant.0 at c.mark.ensures.1),
    )

pub returns : goal.returns
returns c =
    let l = c.loop-k in
    let all : l.k ≡ c.args.splices.now.s.count = omega arith in
    record { bound = omega arith; before = rw all at l.invariant.1; here = λ less. absurd (omega arith) }
