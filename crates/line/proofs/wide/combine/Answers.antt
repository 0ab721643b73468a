-- `line::wide::combine` writes both erasures of each line from its syndromes.
use mathlib.Core.Path.{◌≡◌, sym, ap, ◌∙◌}
use mathlib.Core.Logic.{◌⊎◌, inl, inr}
use Prim.Native.Nat.{ℕ, ◌+◌, ◌*◌, ◌≤◌}
use native.Mathlib.Omega.{arith}
use lib.ListN.{length, get_or}
use native.Mathlib.Decide.{dec_lt}
use Rattle.field.specs.Field.{add}
use Rattle.line.specs.Run.{line_at}
use Rattle.line.proofs.Geometry.{off-width, stride-below}
use Rattle.line.proofs.TwoStrips.{strips-more}
use Rattle.line.proofs.wide.combine.Goals as goal
use Rattle.line.proofs.wide.combine.Goals.{Start}
use Rattle.line.proofs.wide.combine.Given.{Over}

strip-j :
    (g : Over) (c : Start g) →
    c.args.run.first + c.args.run.stride * c.args.e.j + c.args.run.width ≤ length c.args.s.now
strip-j g c = c.requires.0.0.fits c.args.e.j (omega arith)

strip-k :
    (g : Over) (c : Start g) →
    c.args.run.first + c.args.run.stride * c.args.e.k + c.args.run.width ≤ length c.args.s.now
strip-k g c = c.requires.0.0.fits c.args.e.k c.requires.0.2

-- the two strips are one, or do not meet
strips-apart :
    (g : Over) (c : Start g) →
    (c.args.run.first + c.args.run.stride * c.args.e.j ≡ c.args.run.first + c.args.run.stride * c.args.e.k)
    ⊎ (c.args.run.first + c.args.run.stride * c.args.e.j + c.args.run.width
    ≤ c.args.run.first + c.args.run.stride * c.args.e.k)
strips-apart g c =
    elim (dec_lt c.args.e.j c.args.e.k) [
      | yes l ↦ inr (omega (arith, stride-below c.args.run.stride c.args.e.j c.args.e.k l, c.requires.0.0.apart))
      | no l ↦
          let e : c.args.e.j ≡ c.args.e.k = omega arith in
          inl (ap (λ (i : ℕ). c.args.run.first + c.args.run.stride * i) e)
    ]

pub loop-t-preserved : goal.loop-t-preserved
unfolding add
loop-t-preserved g c =
    strips-more c.loop-t.invariant (strips-apart g (goal.at.loop-t-preserved g c).Start) c.loop-t-test.true (strip-j g (goal.at.loop-t-preserved g c).Start) (strip-k g (goal.at.loop-t-preserved g c).Start) _ _
    (rw c.dot-y.ensures) (rw c.dot-y.ensures)

pub returns : goal.returns
unfolding line_at
returns g c =
    let start = (goal.at.returns g c).Start in
    record {
      size = c.loop-t.invariant.size;
      kept =
          λ p oj ok. c.loop-t.invariant.kept p (off-width start.args.run _ p _ (omega arith) oj)
          (off-width start.args.run _ p _ (omega arith) ok);
      later = λ t h. c.loop-t.invariant.later t (omega arith);
      earlier =
          λ l t h. c.loop-t.invariant.earlier
          (omega (arith, stride-below start.args.run.stride _ _ l, start.requires.0.0.apart)) t (omega arith)
          ∙ ap (add (get_or start.args.sums.now.first t 0)) (sym (c.loop-t.invariant.later t (omega arith)));
    }
