-- A plan of one splice keeps every rule.
use mathlib.Core.Path.{◌≡◌, refl, subst}
use mathlib.Core.Logic.{inr}
use native.Mathlib.Omega.{arith}
use native.Mathlib.Decide.{ℕ_discrete}
use Rattle.cursor.specs.Steps.{word}
use Rattle.plan_form.specs.Entries.{half, closure_at, ClosureRule, closure_of, fibre_number, Precedes, Listed, FibreRule, first_of, second_of, SpliceRule}
use Rattle.plan_form.specs.Form.{Plan, Part, closure_count, closure, fibre_count, fibre, splice_count, splice, start, size, plan_end, Has, Rule, Sound, counts_of, plan_of}
use Rattle.plan_form.specs.Theorems.{one_plan, PlanExists}

abbrev P : Plan
P = plan_of one_plan

only-closure : ClosureRule P.closures 0
only-closure = record { ascending = λ l. absurd (omega arith) }

first-fibre : FibreRule P.closures 1 P.fibres 0
unfolding plan_of one_plan fibre_number closure_of closure_at half Listed
first-fibre = record { from_1 = omega arith; to_288 = omega arith; ascending = λ l. absurd (omega arith); listed = (0, omega arith, refl) }

second-fibre : FibreRule P.closures 1 P.fibres 1
unfolding plan_of one_plan fibre_number closure_of closure_at half Listed Precedes
second-fibre = record { from_1 = omega arith; to_288 = omega arith; ascending = λ _. inr (refl, omega arith); listed = (0, omega arith, refl) }

only-splice : SpliceRule P.fibres 2 P.splices 0
unfolding plan_of one_plan first_of second_of closure_of half word
only-splice =
    record {
      lower = omega arith;
      fibres = omega arith;
      same_closure = refl;
      ascending = λ l. absurd (omega arith);
      once = λ j x l. absurd (omega arith);
    }

each-sound : (part : Part) → Has P.counts part → Sound P (plan_end P.counts) part
unfolding plan_of counts_of one_plan start size plan_end Has Rule
each-sound closure_count has = record { whole = omega arith; kept = tt }
each-sound (closure k) has = let e : 0 ≡ k = omega arith in record { whole = omega arith; kept = subst (ClosureRule P.closures) e only-closure }
each-sound fibre_count has = record { whole = omega arith; kept = tt }
each-sound (fibre k) has =
    record {
      whole = omega arith;
      kept = elim (ℕ_discrete 0 k) [
        | yes e ↦ subst (FibreRule P.closures 1 P.fibres) e first-fibre
        | no ne ↦ let e : 1 ≡ k = omega arith in subst (FibreRule P.closures 1 P.fibres) e second-fibre
      ];
    }
each-sound splice_count has = record { whole = omega arith; kept = tt }
each-sound (splice k) has = let e : 0 ≡ k = omega arith in record { whole = omega arith; kept = subst (SpliceRule P.fibres 2 P.splices) e only-splice }

pub plan-exists : PlanExists
unfolding PlanExists plan_of
plan-exists = record { sound = each-sound; ends = refl }
