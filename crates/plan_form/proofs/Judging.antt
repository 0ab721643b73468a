-- What the first entry that breaks its rule, or is cut, makes of a section; and of the plan.
use Rattle.answer.specs.declared.Refusal.{Refusal}
use Rattle.std.specs.Prelude.{Result, Err, IsErrAnd}
use Rattle.std.proofs.lemmas.Result.{err_from_is_err_and}
use mathlib.Core.Path.{◌≡◌, subst, ◌∙◌}
use Prim.Native.Nat.{ℕ, ◌+◌, ◌*◌, ◌≤◌, ◌<◌}
use native.Mathlib.Omega.{arith}
use native.Mathlib.Decide.{dec_lt}
use Rattle.answer.specs.declared.Refusal.TheVariants.{Entry}
use Rattle.answer.specs.Values.{refusal, value_of}
use Rattle.plan_form.specs.Entries.{ClosureRule, FibreRule, SpliceRule}
use Rattle.plan_form.specs.Form.{Plan, Part, closure_count, closure, fibre_count, fibre, splice_count, splice, start, size, plan_end, Has, Rule, Sound, SoundBefore, Broken, part_broken, left_over, IsPlan, FormOutcome, broken}
use Rattle.plan_form.specs.Inner.Checks.{FirstKept, FibresKept}
use Rattle.plan_form.proofs.Soundness.{closures-sound, fibres-sound, splices-sound, all_sound}
use Rattle.plan_form.proofs.Ascending.{fibres-kept}

module _ (P : Plan) (len : ℕ) where
  abbrev c : ℕ
  c = P.counts.closures

  abbrev n : ℕ
  n = P.counts.fibres

  -- ---- a count that is cut

  pub closure-count-cut : len < 4 → Broken P len 0
  unfolding start size Has
  closure-count-cut l = part_broken closure_count tt (λ s. omega (arith, s.whole)) (λ _ _ m. absurd (omega arith))

  pub fibre-count-cut : SoundBefore P len (4 + 2 * c) → len < 8 + 2 * c → Broken P len (4 + 2 * c)
  unfolding start size Has
  fibre-count-cut before l = part_broken fibre_count tt (λ s. omega (arith, s.whole)) before

  pub splice-count-cut : SoundBefore P len (8 + 2 * c + 4 * n) → len < 12 + 2 * c + 4 * n → Broken P len (8 + 2 * c + 4 * n)
  unfolding start size Has
  splice-count-cut before l = part_broken splice_count tt (λ s. omega (arith, s.whole)) before

  -- ---- what is sound keeps its rule

  pub closures-keep : SoundBefore P len (4 + 2 * c) → (k : ℕ) → k < c → ClosureRule P.closures k
  unfolding start Has Rule
  closures-keep before k l = (before (closure k) l (omega arith)).kept

  pub fibres-keep : SoundBefore P len (8 + 2 * c + 4 * n) → (k : ℕ) → k < n → FibreRule P.closures c P.fibres k
  unfolding start Has Rule
  fibres-keep before k l = (before (fibre k) l (omega arith)).kept

  pub fibres-fit : SoundBefore P len (8 + 2 * c + 4 * n) → FibresKept P.fibres n
  fibres-fit before = fibres-kept P.closures c P.fibres n (fibres-keep before)

  -- ---- entries of which the first `whole` are whole, and `first` is the first of those that breaks its rule, or is `whole`

  module _ (entry : ℕ → Part) (whole first : ℕ) (found : FirstKept (λ k. Rule P (entry k)) whole first) where
    each-sound : ((k : ℕ) → k < whole → start P.counts (entry k) + size (entry k) ≤ len) → (j : ℕ) → j < first → Sound P len (entry j)
    each-sound fit j l = record { whole = fit j (omega (arith, found.bound)); kept = found.before j l }

    first-unsound : (first ≡ whole → len < start P.counts (entry first) + size (entry first)) → Sound P len (entry first) → ⊥
    first-unsound cut s =
        elim (dec_lt first whole) [ yes here ↦ found.here here s.kept | no behind ↦ omega (arith, s.whole, cut (omega (arith, found.bound))) ]

  -- ---- the three sections

  module _ (whole first : ℕ) (room : 4 ≤ len) (fit : 4 + 2 * whole ≤ len) (most : whole ≤ c) (cut : whole < c → len < 6 + 2 * whole)
      (found : FirstKept (ClosureRule P.closures) whole first) where
    closures-each : (j : ℕ) → j < first → Sound P len (closure j)
    unfolding start size Rule
    closures-each = each-sound closure whole first found (λ k l. omega arith)

    closure-bad : first < c → Sound P len (closure first) → ⊥
    unfolding start size Rule
    closure-bad l = first-unsound closure whole first found (λ e. omega (arith, cut (omega arith)))

    pub closures-broken : first < c → Broken P len (4 + 2 * first)
    unfolding start Has
    closures-broken l = part_broken (closure first) l (closure-bad l) (closures-sound P len first room (omega arith) closures-each)

    pub closures-passed : c ≤ first → SoundBefore P len (4 + 2 * c) × (4 + 2 * c ≤ len)
    closures-passed l =
        let all : first ≡ c = omega (arith, found.bound) in
        (subst (λ (k : ℕ). SoundBefore P len (4 + 2 * k)) all (closures-sound P len first room (omega arith) closures-each), omega (arith, found.bound))

  module _ (before : SoundBefore P len (4 + 2 * c)) (whole first : ℕ) (fit : 8 + 2 * c + 4 * whole ≤ len) (most : whole ≤ n) (cut : whole < n → len < 12 + 2 * c + 4 * whole)
      (found : FirstKept (FibreRule P.closures c P.fibres) whole first) where
    fibres-each : (j : ℕ) → j < first → Sound P len (fibre j)
    unfolding start size Rule
    fibres-each = each-sound fibre whole first found (λ k l. omega arith)

    fibre-bad : first < n → Sound P len (fibre first) → ⊥
    unfolding start size Rule
    fibre-bad l = first-unsound fibre whole first found (λ e. omega (arith, cut (omega arith)))

    pub fibres-broken : first < n → Broken P len (8 + 2 * c + 4 * first)
    unfolding start Has
    fibres-broken l = part_broken (fibre first) l (fibre-bad l) (fibres-sound P len first before (omega arith) (omega arith) fibres-each)

    pub fibres-passed : n ≤ first → SoundBefore P len (8 + 2 * c + 4 * n) × (8 + 2 * c + 4 * n ≤ len)
    fibres-passed l =
        let all : first ≡ n = omega (arith, found.bound) in (
          subst (λ (k : ℕ). SoundBefore P len (8 + 2 * c + 4 * k)) all (fibres-sound P len first before (omega arith) (omega arith) fibres-each),
          omega (arith, found.bound),
        )

  module _ (before : SoundBefore P len (8 + 2 * c + 4 * n)) (whole first : ℕ) (fit : 12 + 2 * c + 4 * n + 8 * whole ≤ len) (most : whole ≤ P.counts.splices)
      (cut : whole < P.counts.splices → len < 20 + 2 * c + 4 * n + 8 * whole) (found : FirstKept (SpliceRule P.fibres n P.splices) whole first) where
    splices-each : (j : ℕ) → j < first → Sound P len (splice j)
    unfolding start size Rule
    splices-each = each-sound splice whole first found (λ k l. omega arith)

    splice-bad : first < P.counts.splices → Sound P len (splice first) → ⊥
    unfolding start size Rule
    splice-bad l = first-unsound splice whole first found (λ e. omega (arith, cut (omega arith)))

    pub splices-broken : first < P.counts.splices → Broken P len (12 + 2 * c + 4 * n + 8 * first)
    unfolding start Has
    splices-broken l = part_broken (splice first) l (splice-bad l) (splices-sound P len first before (omega arith) splices-each)

    every-part : P.counts.splices ≤ first → (part : Part) → Has P.counts part → Sound P len part
    unfolding plan_end
    every-part l =
        let all : first ≡ P.counts.splices = omega (arith, found.bound) in
        all_sound P len (subst (λ (k : ℕ). SoundBefore P len (12 + 2 * c + 4 * n + 8 * k)) all (splices-sound P len first before (omega arith) splices-each))

    pub bytes-left-over : P.counts.splices ≤ first → 12 + 2 * c + 4 * n + 8 * first < len → Broken P len (12 + 2 * c + 4 * n + 8 * first)
    unfolding plan_end
    bytes-left-over l more =
        let all : P.counts.splices ≡ first = omega (arith, found.bound) in
        subst (λ (k : ℕ). Broken P len (12 + 2 * c + 4 * n + 8 * k)) all (left_over (every-part l) (rw all more))

    pub plan-formed : P.counts.splices ≤ first → len ≤ 12 + 2 * c + 4 * n + 8 * first → IsPlan P len
    unfolding plan_end
    plan-formed l m = record { sound = every-part l; ends = omega (arith, found.bound) }

  -- ---- the answer

  pub refused-broken : {A : Type 0} (f : Refusal) (a : A) (at at' : ℕ) → f ≡ Entry at → at ≡ at' → Broken P len at' → FormOutcome P len a (value_of (Err f))
  unfolding value_of refusal
  refused-broken f a at at' e same b = rw e (broken at (rw same b))

  -- the refusal that a `?` hands on
  pub handed-broken : {A : Type 0} (r : Result A Refusal) (f : Refusal) (a : A) (at at' : ℕ) → IsErrAnd r (λ g. g ≡ f) → f ≡ Entry at → at ≡ at' → Broken P len at'
      → FormOutcome P len a (value_of r)
  handed-broken r f a at at' handed e same b =
      let (g, is, gf) = err_from_is_err_and r handed in
      rw is (refused-broken g a at at' (gf ∙ e) same b)
