-- A plan is broken at one byte, and at none where it is in the form.
use mathlib.Core.Path.{◌≡◌, refl}
use Prim.Native.Nat.{ℕ, ◌<◌}
use native.Mathlib.Omega.{arith}
use native.Mathlib.Decide.{dec_lt}
use Rattle.plan_form.specs.Form.{Plan, Part, start, Has, Sound, SoundBefore, part_broken, left_over}
use Rattle.plan_form.specs.Theorems.{OneBroken, BrokenOrPlan}

module _ {P : Plan} {len : ℕ} where
  -- no part that is broken begins before another that is broken first
  not_earlier : (p q : Part) → Has P.counts p → (Sound P len p → ⊥) → SoundBefore P len (start P.counts q)
      → start P.counts p < start P.counts q → ⊥
  not_earlier p q has bad before l = bad (before p has l)

  one-broken-part : (p q : Part) → Has P.counts p → (Sound P len p → ⊥) → SoundBefore P len (start P.counts p)
      → Has P.counts q → (Sound P len q → ⊥) → SoundBefore P len (start P.counts q) → start P.counts p ≡ start P.counts q
  one-broken-part p q h bad before h' bad' before' =
      elim (dec_lt (start P.counts p) (start P.counts q)) [
        | yes l ↦ absurd (not_earlier p q h bad before' l)
        | no n ↦ elim (dec_lt (start P.counts q) (start P.counts p)) [ yes l ↦ absurd (not_earlier q p h' bad' before l) | no m ↦ omega arith ]
      ]

pub one-broken : OneBroken
unfolding OneBroken
one-broken P len a b (part_broken p h bad before) (part_broken q h' bad' before') = one-broken-part p q h bad before h' bad' before'
one-broken P len a b (part_broken p h bad _) (left_over sound _) = absurd (bad (sound p h))
one-broken P len a b (left_over sound _) (part_broken q h bad _) = absurd (bad (sound q h))
one-broken P len a b (left_over _ _) (left_over _ _) = refl

pub broken-or-plan : BrokenOrPlan
unfolding BrokenOrPlan
broken-or-plan P len a plan (part_broken p h bad _) = bad (plan.sound p h)
broken-or-plan P len a plan (left_over _ more) = omega (arith, plan.ends)
