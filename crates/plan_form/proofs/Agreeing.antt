-- Two plans with the same counts whose entries are the same bytes: where one is in the form, the other is.
use mathlib.Core.Path.{◌≡◌, refl, sym, ap, subst}
use mathlib.Core.Logic.{inl, inr}
use Prim.Native.Nat.{ℕ, ◌+◌, ◌-◌, ◌*◌, ◌<◌}
use native.Mathlib.Omega.{arith}
use lib.ListN.{get_or}
use Rattle.cursor.specs.Steps.{word}
use Rattle.plan_form.specs.Entries.{half, Entries, closure_at, ClosureRule, closure_of, fibre_number, Precedes, Listed, FibreRule, first_of, second_of, Joins, SpliceRule}
use Rattle.plan_form.specs.declared.PlanCounts.{PlanCounts}
use Rattle.plan_form.specs.Form.{Plan, Part, closure_count, closure, fibre_count, fibre, splice_count, splice, Has, Rule, Sound, IsPlan}

-- n entries of a size are the same bytes
pub record Same (size : ℕ) (E E' : Entries) (n : ℕ) : Type 0 where
  pub bytes : (i : ℕ) → i < size * n → get_or E.bytes (E.at + i) 0 ≡ get_or E'.bytes (E'.at + i) 0

-- ---- numbers

module _ {width n : ℕ} {E E' : Entries} (same : Same width E E' n) where
  same_byte : (i at at' : ℕ) → i < width * n → at ≡ E.at + i → at' ≡ E'.at + i → get_or E.bytes at 0 ≡ get_or E'.bytes at' 0
  same_byte i at at' l e e' = rw (e, e') (same.bytes i l)

  same_half : (i at at' : ℕ) → i + 1 < width * n → at ≡ E.at + i → at' ≡ E'.at + i → half E.bytes at ≡ half E'.bytes at'
  unfolding half
  same_half i at at' l e e' =
      omega (arith, same_byte i at at' (omega arith) e e', same_byte (i + 1) (at + 1) (at' + 1) (omega arith) (omega arith) (omega arith))

  same_word : (i at at' : ℕ) → i + 3 < width * n → at ≡ E.at + i → at' ≡ E'.at + i → word E.bytes at ≡ word E'.bytes at'
  unfolding word
  same_word i at at' l e e' =
      omega (
        arith,
        same_byte i at at' (omega arith) e e',
        same_byte (i + 1) (at + 1) (at' + 1) (omega arith) (omega arith) (omega arith),
        same_byte (i + 2) (at + 2) (at' + 2) (omega arith) (omega arith) (omega arith),
        same_byte (i + 3) (at + 3) (at' + 3) (omega arith) (omega arith) (omega arith),
      )

-- ---- entries

module _ {C C' : Entries} {c : ℕ} (same : Same 2 C C' c) where
  same_closure : (k : ℕ) → k < c → closure_at C k ≡ closure_at C' k
  unfolding closure_at
  same_closure k l = same_half same (2 * k) (C.at + 2 * k) (C'.at + 2 * k) (omega arith) refl refl

  closure-kept : (k : ℕ) → k < c → ClosureRule C k → ClosureRule C' k
  closure-kept k l kept =
      record { ascending = λ later. omega (arith, kept.ascending later, same_closure k l, same_closure (k - 1) (omega arith)) }

  listed_kept : (x : ℕ) → Listed C c x → Listed C' c x
  unfolding Listed
  listed_kept x (q, l, e) = (q, l, omega (arith, same_closure q l))

module _ {F F' : Entries} {n : ℕ} (same : Same 4 F F' n) where
  same-closure-of : (k : ℕ) → k < n → closure_of F k ≡ closure_of F' k
  unfolding closure_of
  same-closure-of k l = same_half same (4 * k) (F.at + 4 * k) (F'.at + 4 * k) (omega arith) refl refl

  same_number : (k : ℕ) → k < n → fibre_number F k ≡ fibre_number F' k
  unfolding fibre_number
  same_number k l = same_half same (4 * k + 2) (F.at + 4 * k + 2) (F'.at + 4 * k + 2) (omega arith) (omega arith) (omega arith)

  precedes-kept : (x y : ℕ) → x < n → y < n → Precedes F x y → Precedes F' x y
  unfolding Precedes
  precedes-kept x y l m (inl less) = inl (omega (arith, same-closure-of x l, same-closure-of y m))
  precedes-kept x y l m (inr (e, less)) =
      inr (omega (arith, same-closure-of x l, same-closure-of y m), omega (arith, same_number x l, same_number y m))

  fibre-kept : {C C' : Entries} {c : ℕ} → Same 2 C C' c → (k : ℕ) → k < n → FibreRule C c F k → FibreRule C' c F' k
  fibre-kept {C} {C'} {c} closures k l kept =
      record {
        from_1 = omega (arith, kept.from_1, same_number k l);
        to_288 = omega (arith, kept.to_288, same_number k l);
        ascending = λ later. precedes-kept (k - 1) k (omega arith) l (kept.ascending later);
        listed = subst (Listed C' c) (same-closure-of k l) (listed_kept closures (closure_of F k) kept.listed);
      }

module _ {S S' : Entries} {s : ℕ} (same : Same 8 S S' s) where
  same_first : (k : ℕ) → k < s → first_of S k ≡ first_of S' k
  unfolding first_of
  same_first k l = same_word same (8 * k) (S.at + 8 * k) (S'.at + 8 * k) (omega arith) refl refl

  same_second : (k : ℕ) → k < s → second_of S k ≡ second_of S' k
  unfolding second_of
  same_second k l = same_word same (8 * k + 4) (S.at + 8 * k + 4) (S'.at + 8 * k + 4) (omega arith) (omega arith) (omega arith)

  joins-back : (k x : ℕ) → k < s → Joins S' k x → Joins S k x
  unfolding Joins
  joins-back k x l (inl e) = inl (omega (arith, same_first k l))
  joins-back k x l (inr e) = inr (omega (arith, same_second k l))

  splice-kept : {F F' : Entries} {n : ℕ} → Same 4 F F' n → (k : ℕ) → k < s → SpliceRule F n S k → SpliceRule F' n S' k
  splice-kept {F} {F'} {n} fibres k l kept =
      let first = same_first k l in
      let second = same_second k l in
      let low = kept.lower in
      let high = kept.fibres in
      record {
        lower = omega arith;
        fibres = omega arith;
        same_closure = rw (
          ← first,
          ← second,
          ← same-closure-of fibres (first_of S k) (omega arith),
          ← same-closure-of fibres (second_of S k) (omega arith),
        ) kept.same_closure;
        ascending = λ later. omega (arith, kept.ascending later, same_first (k - 1) (omega arith));
        once = λ j x m a b. kept.once j x m (joins-back j x (omega arith) a) (joins-back k x l b);
      }

-- ---- plans

-- as many entries, and the same ones; where they stand may differ
pub record Agree (P Q : Plan) : Type 0 where
  pub counts : P.counts ≡ Q.counts
  pub closures : Same 2 P.closures Q.closures P.counts.closures
  pub fibres : Same 4 P.fibres Q.fibres P.counts.fibres
  pub splices : Same 8 P.splices Q.splices P.counts.splices

-- the entries of a plan, counted otherwise
abbrev counted : Plan → PlanCounts → Plan
counted P n = record { closures = P.closures; fibres = P.fibres; splices = P.splices; counts = n }

module _ {P Q : Plan} (agree : Agree P Q) (len : ℕ) where
  sound-agrees : (part : Part) → Has P.counts part → Sound P len part → Sound (counted Q P.counts) len part
  unfolding Has Rule
  sound-agrees closure_count has sound = record { whole = sound.whole; kept = tt }
  sound-agrees (closure k) has sound = record { whole = sound.whole; kept = closure-kept agree.closures k has sound.kept }
  sound-agrees fibre_count has sound = record { whole = sound.whole; kept = tt }
  sound-agrees (fibre k) has sound = record { whole = sound.whole; kept = fibre-kept agree.fibres agree.closures k has sound.kept }
  sound-agrees splice_count has sound = record { whole = sound.whole; kept = tt }
  sound-agrees (splice k) has sound = record { whole = sound.whole; kept = splice-kept agree.splices agree.fibres k has sound.kept }

  pub plan-agrees : IsPlan P len → IsPlan Q len
  plan-agrees plan =
      let other : IsPlan (counted Q P.counts) len
      = record { sound = λ part has. sound-agrees part has (plan.sound part has); ends = plan.ends } in
      subst (λ (n : PlanCounts). IsPlan (counted Q n) len) agree.counts other

pub agree-back : {P Q : Plan} → Agree P Q → Agree Q P
agree-back {P} {Q} agree =
    let same = agree.counts in
    let c : P.counts.closures ≡ Q.counts.closures = ap (λ (n : PlanCounts). n.closures) same in
    let f : P.counts.fibres ≡ Q.counts.fibres = ap (λ (n : PlanCounts). n.fibres) same in
    let s : P.counts.splices ≡ Q.counts.splices = ap (λ (n : PlanCounts). n.splices) same in
    record {
      counts = sym same;
      closures = record { bytes = λ i l. sym (agree.closures.bytes i (omega arith)) };
      fibres = record { bytes = λ i l. sym (agree.fibres.bytes i (omega arith)) };
      splices = record { bytes = λ i l. sym (agree.splices.bytes i (omega arith)) };
    }
