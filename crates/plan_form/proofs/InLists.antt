-- The sections of a plan in three lists, judged.
use Rattle.std.specs.Prelude.{Result, Ok, Err, MatchResult}
use mathlib.Core.Path.{◌≡◌, refl}
use mathlib.Core.List.{List}
use Prim.Native.Nat.{ℕ, ◌+◌, ◌*◌, ◌/◌, ◌≤◌, ◌<◌}
use native.Mathlib.Omega.{arith}
use lib.ListN.{length}
use Rattle.answer.specs.declared.Refusal.{Refusal}
use Rattle.answer.specs.declared.Refusal.TheVariants.{Entry}
use Rattle.answer.specs.Values.{value_of}
use Rattle.plan_form.specs.declared.sections.Section.{Section}
use Rattle.plan_form.specs.Entries.{Bytes, entries, ClosureRule, FibreRule, SpliceRule}
use Rattle.plan_form.specs.Form.{SoundBefore, Broken, IsPlan, FormOutcome, formed, plan_end, lists, counts_of, plan_of}
use Rattle.plan_form.specs.Inner.Checks.{FirstKept, FibresKept}
use Rattle.plan_form.proofs.Few.{closures-few, fibres-few}
use Rattle.plan_form.proofs.Judging.{closures-keep, fibres-keep, fibres-fit, closures-broken, closures-passed, fibres-broken, fibres-passed, splices-broken, plan-formed, refused-broken}

module _ (cs fs ss : List ℕ) where
  abbrev Before : ℕ → Type 0
  Before = SoundBefore (plan_of (lists cs fs ss)) (plan_end (counts_of (lists cs fs ss)))

  abbrev BrokenAt : ℕ → Type 0
  BrokenAt = Broken (plan_of (lists cs fs ss)) (plan_end (counts_of (lists cs fs ss)))

  -- ---- closures

  module _ (c first : ℕ) (ec : c ≡ length cs / 2) (found : FirstKept (ClosureRule (entries cs 0)) c first) where
    pub list-closures-broken : first < c → BrokenAt (4 + 2 * first)
    unfolding plan_of counts_of plan_end
    list-closures-broken l =
        closures-broken (plan_of (lists cs fs ss)) (plan_end (counts_of (lists cs fs ss))) c first (omega arith) (omega arith) (omega arith) (λ m. absurd (omega arith)) found (omega arith)

    pub list-closures-passed : c ≤ first → Before (4 + 2 * c)
    unfolding plan_of counts_of plan_end
    list-closures-passed l =
        rw ec
        (closures-passed (plan_of (lists cs fs ss)) (plan_end (counts_of (lists cs fs ss))) c first (omega arith) (omega arith) (omega arith) (λ m. absurd (omega arith)) found
        (omega arith)).0

  -- ---- fibres

  module _ (c : ℕ) (ec : c ≡ length cs / 2) (before : Before (4 + 2 * c)) where
    module _ (n first : ℕ) (en : n ≡ length fs / 4) (found : FirstKept (FibreRule (entries cs 0) c (entries fs 0)) n first) where
      pub list-fibres-broken : first < n → BrokenAt (8 + 2 * c + 4 * first)
      unfolding plan_of counts_of plan_end
      list-fibres-broken l =
          rw ec
          (fibres-broken (plan_of (lists cs fs ss)) (plan_end (counts_of (lists cs fs ss))) (rw ec at before) n first (omega arith) (omega arith) (λ m. absurd (omega arith))
          (rw ec at found) (omega arith))

      pub list-fibres-passed : n ≤ first → Before (8 + 2 * c + 4 * n)
      unfolding plan_of counts_of plan_end
      list-fibres-passed l =
          rw (ec, en)
          (fibres-passed (plan_of (lists cs fs ss)) (plan_end (counts_of (lists cs fs ss))) (rw ec at before) n first (omega arith) (omega arith) (λ m. absurd (omega arith))
          (rw ec at found) (omega arith)).0

  -- ---- splices

  module _ (c n : ℕ) (ec : c ≡ length cs / 2) (en : n ≡ length fs / 4) (before : Before (8 + 2 * c + 4 * n)) where
    pub list-fibres-fit : FibresKept (entries fs 0) n
    unfolding plan_of counts_of
    list-fibres-fit = rw en (fibres-fit (plan_of (lists cs fs ss)) (plan_end (counts_of (lists cs fs ss))) (rw (ec, en) at before))

    pub list-few : Bytes cs → Bytes fs → (c ≤ 65536) × (n < 4294967296)
    unfolding plan_of counts_of
    list-few small-cs small-fs =
        let P = plan_of (lists cs fs ss) in
        let whole = plan_end (counts_of (lists cs fs ss)) in
        let kept = fibres-keep P whole (rw (ec, en) at before) in (
          closures-few (entries cs 0) small-cs c (λ k l. closures-keep P whole (λ part has m. before part has (omega arith)) k (omega arith)),
          fibres-few (entries cs 0) (length cs / 2) (entries fs 0) small-fs n (λ k l. kept k (omega arith)),
        )

    module _ (s first : ℕ) (es : s ≡ length ss / 8) (found : FirstKept (SpliceRule (entries fs 0) n (entries ss 0)) s first) where
      pub list-splices-broken : first < s → BrokenAt (12 + 2 * c + 4 * n + 8 * first)
      unfolding plan_of counts_of plan_end
      list-splices-broken l =
          rw (ec, en)
          (splices-broken (plan_of (lists cs fs ss)) (plan_end (counts_of (lists cs fs ss))) (rw (ec, en) at before) s first (omega arith) (omega arith) (λ m. absurd (omega arith))
          (rw en at found) (omega arith))

      pub list-plan : s ≤ first → IsPlan (plan_of (lists cs fs ss)) (plan_end (counts_of (lists cs fs ss)))
      unfolding plan_of counts_of plan_end
      list-plan l =
          plan-formed (plan_of (lists cs fs ss)) (plan_end (counts_of (lists cs fs ss))) (rw (ec, en) at before) s first (omega arith) (omega arith) (λ m. absurd (omega arith))
          (rw en at found) (omega arith) (omega (arith, found.bound))

-- ---- the same for the entries as they were listed

-- the whole entries of a list, and the bytes they stand in
abbrev Listed : List ℕ → ℕ → List ℕ → Section → Type 0
Listed list size bytes s = (bytes ≡ list) × (s.at ≡ 0) × (s.count ≡ length list / size)

module _ (cs fs ss : List ℕ) {cb : List ℕ} {c : Section} {first : ℕ} (listed : Listed cs 2 cb c)
    (found : FirstKept (ClosureRule (entries cb c.at)) c.count first) where
  closures-found : FirstKept (ClosureRule (entries cs 0)) c.count first
  closures-found = rw (listed.0, listed.1) at found

  pub closures-broken-listed : first < c.count → BrokenAt cs fs ss (4 + 2 * first)
  closures-broken-listed = list-closures-broken cs fs ss c.count first listed.2 closures-found

  module _ (passed : c.count ≤ first) {fb : List ℕ} {f : Section} {second : ℕ} (listed' : Listed fs 4 fb f)
      (found' : FirstKept (FibreRule (entries cb c.at) c.count (entries fb f.at)) f.count second) where
    fibres-found : FirstKept (FibreRule (entries cs 0) c.count (entries fs 0)) f.count second
    fibres-found = rw (listed.0, listed.1, listed'.0, listed'.1) at found'

    closures-before : Before cs fs ss (4 + 2 * c.count)
    closures-before = list-closures-passed cs fs ss c.count first listed.2 closures-found passed

    pub fibres-broken-listed : second < f.count → BrokenAt cs fs ss (8 + 2 * c.count + 4 * second)
    fibres-broken-listed = list-fibres-broken cs fs ss c.count listed.2 closures-before f.count second listed'.2 fibres-found

    module _ (passed' : f.count ≤ second) where
      fibres-before : Before cs fs ss (8 + 2 * c.count + 4 * f.count)
      fibres-before = list-fibres-passed cs fs ss c.count listed.2 closures-before f.count second listed'.2 fibres-found passed'

      pub fibres-kept-listed : FibresKept (entries fb f.at) f.count
      fibres-kept-listed = rw (listed'.0, listed'.1) (list-fibres-fit cs fs ss c.count f.count listed.2 listed'.2 fibres-before)

      pub few-listed : Bytes cs → Bytes fs → (c.count ≤ 65536) × (f.count < 4294967296)
      few-listed = list-few cs fs ss c.count f.count listed.2 listed'.2 fibres-before

      module _ {sb : List ℕ} {s : Section} {third : ℕ} (listed'' : Listed ss 8 sb s)
          (found'' : FirstKept (SpliceRule (entries fb f.at) f.count (entries sb s.at)) s.count third) where
        splices-found : FirstKept (SpliceRule (entries fs 0) f.count (entries ss 0)) s.count third
        splices-found = rw (listed'.0, listed'.1, listed''.0, listed''.1) at found''

        -- the last section's answer is the plan's
        pub plan-judged : (r : Result Unit Refusal)
            → MatchResult r (λ _. s.count ≤ third) (λ f'. (third < s.count) × (f' ≡ Entry (12 + 2 * c.count + 4 * f.count + 8 * third)))
            → FormOutcome (plan_of (lists cs fs ss)) (plan_end (counts_of (lists cs fs ss))) tt (value_of r)
        unfolding value_of
        plan-judged (Ok _) l = formed (list-plan cs fs ss c.count f.count listed.2 listed'.2 fibres-before s.count third listed''.2 splices-found l)
        plan-judged (Err g) (l, e) =
            refused-broken _ _ g tt _ _ e refl (list-splices-broken cs fs ss c.count f.count listed.2 listed'.2 fibres-before s.count third listed''.2 splices-found l)
