-- The sections of a file, judged: each law takes the count and the first entry as they were read, and the byte where they stand.
use Rattle.std.specs.Prelude.{Ok, min}
use mathlib.Core.Path.{◌≡◌, subst}
use mathlib.Core.List.{List}
use Prim.Native.Nat.{ℕ, ◌+◌, ◌-◌, ◌*◌, ◌/◌, ◌≤◌, ◌<◌}
use native.Mathlib.Omega.{arith}
use lib.ListN.{length}
use Rattle.answer.specs.Values.{value_of}
use Rattle.cursor.specs.Steps.{word}
use Rattle.plan_form.specs.declared.sections.Section.{Section}
use Rattle.plan_form.specs.Entries.{entries, ClosureRule, FibreRule, SpliceRule}
use Rattle.plan_form.specs.Form.{SoundBefore, Broken, IsPlan, FormOutcome, formed, plan_counts, plan_with, closures_in, fibres_in, splices_in, plan_in}
use Rattle.plan_form.specs.Inner.Checks.{FirstKept, FibresKept}
use Rattle.plan_form.proofs.Judging.{fibre-count-cut, splice-count-cut, fibres-fit, closures-broken, closures-passed, fibres-broken, fibres-passed, splices-broken, bytes-left-over, plan-formed}

module _ (f : List ℕ) where
  abbrev len : ℕ
  len = length f

  -- ---- counts stand behind the section before, and what is sound keeps its rules

  module _ (ca c : ℕ) (eca : ca ≡ 4) (ec : c ≡ closures_in f) where
    pub fibres-counted : (n : ℕ) → n ≡ word f (ca + 2 * c) → n ≡ fibres_in f
    unfolding fibres_in
    fibres-counted n e = rw (eca, ec) at e

  module _ (fa n : ℕ) (efa : fa ≡ 8 + 2 * closures_in f) (en : n ≡ fibres_in f) where
    pub splices-counted : (s : ℕ) → s ≡ word f (fa + 4 * n) → s ≡ splices_in f
    unfolding splices_in
    splices-counted s e = rw (efa, en) at e

    pub fibres-fit-in : SoundBefore (plan_in f) len (8 + 2 * closures_in f + 4 * fibres_in f) → FibresKept (entries f fa) n
    unfolding plan_in plan_with
    fibres-fit-in before = rw (efa, en) (fibres-fit (plan_in f) len before)

  -- ---- sections

  module _ (at n whole first : ℕ) (ea : at ≡ 4) (en : n ≡ closures_in f) (room : 4 ≤ len) (least : whole ≡ min n ((len - at) / 2))
      (found : FirstKept (ClosureRule (entries f at)) whole first) where
    closures-cut : whole < closures_in f → len < 6 + 2 * whole
    closures-cut l = omega arith

    pub closures-broken-in : first < n → Broken (plan_in f) len (4 + 2 * first)
    unfolding plan_in plan_with
    closures-broken-in l =
        closures-broken (plan_in f) len whole first room (omega arith) (omega arith) closures-cut
        (subst (λ (a : ℕ). FirstKept (ClosureRule (entries f a)) whole first) ea found) (omega arith)

    pub closures-passed-in : n ≤ first → SoundBefore (plan_in f) len (4 + 2 * closures_in f) × (4 + 2 * closures_in f ≤ len)
    unfolding plan_in plan_with
    closures-passed-in l =
        closures-passed (plan_in f) len whole first room (omega arith) (omega arith) closures-cut
        (subst (λ (a : ℕ). FirstKept (ClosureRule (entries f a)) whole first) ea found) (omega arith)

  module _ (before : SoundBefore (plan_in f) len (4 + 2 * closures_in f)) (ca c at n whole first : ℕ) (eca : ca ≡ 4) (ec : c ≡ closures_in f)
      (ea : at ≡ 8 + 2 * closures_in f) (en : n ≡ fibres_in f) (room : 8 + 2 * closures_in f ≤ len) (least : whole ≡ min n ((len - at) / 4))
      (found : FirstKept (FibreRule (entries f ca) c (entries f at)) whole first) where
    fibres-cut : whole < fibres_in f → len < 12 + 2 * closures_in f + 4 * whole
    fibres-cut l = omega arith

    fibres-found : FirstKept (FibreRule (entries f 4) (closures_in f) (entries f (8 + 2 * closures_in f))) whole first
    fibres-found = rw (eca, ec, ea) at found

    pub fibres-broken-in : first < n → Broken (plan_in f) len (8 + 2 * closures_in f + 4 * first)
    unfolding plan_in plan_with
    fibres-broken-in l =
        fibres-broken (plan_in f) len before whole first (omega arith) (omega arith) fibres-cut fibres-found (omega arith)

    pub fibres-passed-in : n ≤ first → SoundBefore (plan_in f) len (8 + 2 * closures_in f + 4 * fibres_in f) × (8 + 2 * closures_in f + 4 * fibres_in f ≤ len)
    unfolding plan_in plan_with
    fibres-passed-in l =
        fibres-passed (plan_in f) len before whole first (omega arith) (omega arith) fibres-cut fibres-found (omega arith)

  module _ (before : SoundBefore (plan_in f) len (8 + 2 * closures_in f + 4 * fibres_in f)) (fa n at s whole first : ℕ) (efa : fa ≡ 8 + 2 * closures_in f)
      (en : n ≡ fibres_in f) (ea : at ≡ 12 + 2 * closures_in f + 4 * fibres_in f) (es : s ≡ splices_in f) (room : 12 + 2 * closures_in f + 4 * fibres_in f ≤ len)
      (least : whole ≡ min s ((len - at) / 8)) (found : FirstKept (SpliceRule (entries f fa) n (entries f at)) whole first) where
    splices-cut : whole < splices_in f → len < 20 + 2 * closures_in f + 4 * fibres_in f + 8 * whole
    splices-cut l = omega arith

    splices-found : FirstKept (SpliceRule (entries f (8 + 2 * closures_in f)) (fibres_in f) (entries f (12 + 2 * closures_in f + 4 * fibres_in f))) whole first
    splices-found = rw (efa, en, ea) at found

    pub splices-broken-in : first < s → Broken (plan_in f) len (12 + 2 * closures_in f + 4 * fibres_in f + 8 * first)
    unfolding plan_in plan_with
    splices-broken-in l =
        splices-broken (plan_in f) len before whole first (omega arith) (omega arith) splices-cut splices-found (omega arith)

    pub left-over-in : s ≤ first → at + 8 * s < len → Broken (plan_in f) len (12 + 2 * closures_in f + 4 * fibres_in f + 8 * s)
    unfolding plan_in plan_with
    left-over-in l more =
        let all : first ≡ s = omega (arith, found.bound) in
        rw all at (bytes-left-over (plan_in f) len before whole first (omega arith) (omega arith) splices-cut splices-found (omega arith) (omega arith))

    plan-in : s ≤ first → len ≤ at + 8 * first → IsPlan (plan_in f) len
    unfolding plan_in plan_with
    plan-in l m =
        plan-formed (plan_in f) len before whole first (omega arith) (omega arith) splices-cut splices-found (omega arith) (omega arith)

    -- the counts as they were read are the plan's
    pub plan-measured : (c : ℕ) → c ≡ closures_in f → s ≤ first → len ≤ at + 8 * first
        → FormOutcome (plan_in f) len (plan_in f).counts (value_of (Ok (plan_counts c n s)))
    unfolding value_of plan_in plan_with
    plan-measured c ec l m = rw (ec, en, es) (formed (plan-in l m))

-- ---- the same for the sections as they were counted, each behind the one before

-- a section whose count stands at a byte
abbrev Counted : List ℕ → ℕ → Section → Type 0
Counted f at s = (at + 4 ≤ length f) × (s.count ≡ word f at) × (s.at ≡ at + 4)

-- its entries of so many bytes that are whole, and the bytes they stand in
abbrev Whole : List ℕ → ℕ → Section → List ℕ → Section → Type 0
Whole f bytes s g w = (g ≡ f) × (w.at ≡ s.at) × (w.count ≡ min s.count ((length f - s.at) / bytes))

module _ (f : List ℕ) (c : Section) (cf : List ℕ) (cw : Section) (first : ℕ) (counted : Counted f 0 c) (whole : Whole f 2 c cf cw)
    (found-whole : FirstKept (ClosureRule (entries cf cw.at)) cw.count first) where
  found : FirstKept (ClosureRule (entries f cw.at)) cw.count first
  found = rw whole.0 at found-whole

  closures-count : c.count ≡ closures_in f
  unfolding closures_in
  closures-count = counted.1

  pub closures-broken-at : first < c.count → Broken (plan_in f) (length f) (c.at + 2 * first)
  closures-broken-at l =
      let e : c.at ≡ 4 = omega (arith, counted) in
      rw e (closures-broken-in f cw.at c.count cw.count first (omega (arith, counted, whole)) closures-count counted.0 (omega (arith, whole)) found l)

  module _ (passed : c.count ≤ first) where
    closures-before : SoundBefore (plan_in f) (length f) (4 + 2 * closures_in f)
    closures-before =
        (closures-passed-in f cw.at c.count cw.count first (omega (arith, counted, whole)) closures-count counted.0 (omega (arith, whole)) found passed).0

    pub fibre-count-cut-at : length f < c.at + 2 * c.count + 4 → Broken (plan_in f) (length f) (c.at + 2 * c.count)
    unfolding plan_in plan_with
    fibre-count-cut-at short =
        let e : c.at + 2 * c.count ≡ 4 + 2 * closures_in f = omega (arith, counted, closures-count) in
        rw e (fibre-count-cut (plan_in f) (length f) closures-before (omega (arith, counted, closures-count)))

    module _ (s : Section) (sf : List ℕ) (sw : Section) (second : ℕ) (counted' : Counted f (c.at + 2 * c.count) s) (whole' : Whole f 4 s sf sw)
        (found-whole' : FirstKept (FibreRule (entries f c.at) c.count (entries sf sw.at)) sw.count second) where
      found' : FirstKept (FibreRule (entries f c.at) c.count (entries f sw.at)) sw.count second
      found' = rw whole'.0 at found-whole'

      fibres-count : s.count ≡ fibres_in f
      fibres-count = fibres-counted f c.at c.count (omega (arith, counted)) closures-count s.count counted'.1

      fibres-place : s.at ≡ 8 + 2 * closures_in f
      fibres-place = omega (arith, counted, closures-count, counted')

      pub fibres-broken-at : second < s.count → Broken (plan_in f) (length f) (s.at + 4 * second)
      fibres-broken-at l =
          rw fibres-place
          (fibres-broken-in f closures-before c.at c.count sw.at s.count sw.count second (omega (arith, counted)) closures-count
          (omega (arith, whole', fibres-place)) fibres-count (omega (arith, counted', fibres-place)) (omega (arith, whole')) found' l)

      module _ (passed' : s.count ≤ second) where
        fibres-before : SoundBefore (plan_in f) (length f) (8 + 2 * closures_in f + 4 * fibres_in f)
        fibres-before =
            (fibres-passed-in f closures-before c.at c.count sw.at s.count sw.count second (omega (arith, counted)) closures-count
            (omega (arith, whole', fibres-place)) fibres-count (omega (arith, counted', fibres-place)) (omega (arith, whole')) found' passed').0

        pub fibres-kept-at : FibresKept (entries f s.at) s.count
        fibres-kept-at = fibres-fit-in f s.at s.count fibres-place fibres-count fibres-before

        pub splice-count-cut-at : length f < s.at + 4 * s.count + 4 → Broken (plan_in f) (length f) (s.at + 4 * s.count)
        unfolding plan_in plan_with
        splice-count-cut-at short =
            let e : s.at + 4 * s.count ≡ 8 + 2 * closures_in f + 4 * fibres_in f = omega (arith, fibres-place, fibres-count) in
            rw e (splice-count-cut (plan_in f) (length f) fibres-before (omega (arith, fibres-place, fibres-count)))

        module _ (t : Section) (tf : List ℕ) (tw : Section) (third : ℕ) (counted'' : Counted f (s.at + 4 * s.count) t) (whole'' : Whole f 8 t tf tw)
            (found-whole'' : FirstKept (SpliceRule (entries f s.at) s.count (entries tf tw.at)) tw.count third) where
          found'' : FirstKept (SpliceRule (entries f s.at) s.count (entries f tw.at)) tw.count third
          found'' = rw whole''.0 at found-whole''

          splices-count : t.count ≡ splices_in f
          splices-count = splices-counted f s.at s.count fibres-place fibres-count t.count counted''.1

          splices-place : t.at ≡ 12 + 2 * closures_in f + 4 * fibres_in f
          splices-place = omega (arith, fibres-place, fibres-count, counted'')

          pub splices-broken-at : third < t.count → Broken (plan_in f) (length f) (t.at + 8 * third)
          splices-broken-at l =
              rw splices-place
              (splices-broken-in f fibres-before s.at s.count tw.at t.count tw.count third fibres-place fibres-count (omega (arith, whole'', splices-place)) splices-count
              (omega (arith, counted'', splices-place)) (omega (arith, whole'')) found'' l)

          pub left-over-at : t.count ≤ third → t.at + 8 * t.count < length f → Broken (plan_in f) (length f) (t.at + 8 * t.count)
          left-over-at l more =
              rw splices-place
              (left-over-in f fibres-before s.at s.count tw.at t.count tw.count third fibres-place fibres-count (omega (arith, whole'', splices-place)) splices-count
              (omega (arith, counted'', splices-place)) (omega (arith, whole'')) found'' l (omega (arith, whole'')))

          pub plan-measured-at : t.count ≤ third → length f ≤ t.at + 8 * t.count
              → FormOutcome (plan_in f) (length f) (plan_in f).counts (value_of (Ok (plan_counts c.count s.count t.count)))
          plan-measured-at l m =
              plan-measured f fibres-before s.at s.count tw.at t.count tw.count third fibres-place fibres-count (omega (arith, whole'', splices-place)) splices-count
              (omega (arith, counted'', splices-place)) (omega (arith, whole'')) found'' c.count closures-count l (omega (arith, whole''))
