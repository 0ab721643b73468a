-- Which parts of a plan are sound: section by section, each once those before it are.
use Prim.Native.Nat.{ℕ, ◌+◌, ◌*◌, ◌≤◌, ◌<◌}
use native.Mathlib.Omega.{arith}
use Rattle.plan_form.specs.Form.{Plan, Part, closure_count, closure, fibre_count, fibre, splice_count, splice, start, size, plan_end, Has, Rule, Sound, SoundBefore}

module _ (P : Plan) (len : ℕ) where
  abbrev c : ℕ
  c = P.counts.closures

  abbrev n : ℕ
  n = P.counts.fibres

  pub closures-sound : (k : ℕ) → 4 ≤ len → k ≤ c → ((j : ℕ) → j < k → Sound P len (closure j)) → SoundBefore P len (4 + 2 * k)
  unfolding start size Rule Has
  closures-sound k count most each closure_count has l = record { whole = omega arith; kept = tt }
  closures-sound k count most each (closure j) has l = each j (omega arith)
  closures-sound k count most each fibre_count has l = absurd (omega arith)
  closures-sound k count most each (fibre j) has l = absurd (omega arith)
  closures-sound k count most each splice_count has l = absurd (omega arith)
  closures-sound k count most each (splice j) has l = absurd (omega arith)

  pub fibres-sound : (k : ℕ) → SoundBefore P len (4 + 2 * c) → 8 + 2 * c ≤ len → k ≤ n → ((j : ℕ) → j < k → Sound P len (fibre j))
      → SoundBefore P len (8 + 2 * c + 4 * k)
  unfolding start size Rule Has
  fibres-sound k before count most each closure_count has l = before closure_count tt (omega arith)
  fibres-sound k before count most each (closure j) has l = before (closure j) has (omega arith)
  fibres-sound k before count most each fibre_count has l = record { whole = omega arith; kept = tt }
  fibres-sound k before count most each (fibre j) has l = each j (omega arith)
  fibres-sound k before count most each splice_count has l = absurd (omega arith)
  fibres-sound k before count most each (splice j) has l = absurd (omega arith)

  pub splices-sound : (k : ℕ) → SoundBefore P len (8 + 2 * c + 4 * n) → 12 + 2 * c + 4 * n ≤ len → ((j : ℕ) → j < k → Sound P len (splice j))
      → SoundBefore P len (12 + 2 * c + 4 * n + 8 * k)
  unfolding start size Rule Has
  splices-sound k before count each closure_count has l = before closure_count tt (omega arith)
  splices-sound k before count each (closure j) has l = before (closure j) has (omega arith)
  splices-sound k before count each fibre_count has l = before fibre_count tt (omega arith)
  splices-sound k before count each (fibre j) has l = before (fibre j) has (omega arith)
  splices-sound k before count each splice_count has l = record { whole = omega arith; kept = tt }
  splices-sound k before count each (splice j) has l = each j (omega arith)

  -- every part of a plan begins before its end
  starts-before : (part : Part) → Has P.counts part → start P.counts part < plan_end P.counts
  unfolding start plan_end Has
  starts-before closure_count has = omega arith
  starts-before (closure k) has = omega arith
  starts-before fibre_count has = omega arith
  starts-before (fibre k) has = omega arith
  starts-before splice_count has = omega arith
  starts-before (splice k) has = omega arith

  pub all_sound : SoundBefore P len (plan_end P.counts) → (part : Part) → Has P.counts part → Sound P len part
  all_sound before part has = before part has (starts-before part has)
