-- The marks of joined fibres: none at first, one more with each splice, and what they tell of the next one.
use mathlib.Core.Path.{◌≡◌, sym, ap, subst, ◌∙◌}
use mathlib.Core.List.{List}
use mathlib.Core.Logic.{◌≢◌, ◌⊎◌, inl, inr}
use Prim.Native.Nat.{ℕ, ◌+◌, ◌-◌, ◌≤◌, ◌<◌}
use native.Mathlib.Omega.{arith}
use native.Mathlib.Decide.{dec_lt, ℕ_discrete}
use lib.ListN.{length, get_or, set, replicate, length-set, length-replicate, get_or-replicate}
use lib.Seq.{get_or-set_same, get_or-set_other}
use Rattle.plan_form.specs.Entries.{Entries, closure_of, fibre_number, first_of, second_of, Joins, SpliceRule}
use Rattle.plan_form.specs.Inner.Checks.{FibresKept, InRank, Marked, Marks}

module _ (F : Entries) (n : ℕ) (S : Entries) (kept : FibresKept F n) where
  -- before the first splice
  pub marks-none : Marks F n S 0 0 (replicate 289 0)
  marks-none =
      record {
        size = length-replicate {A = ℕ} 289 0;
        start = λ _. omega arith;
        follows = λ l. absurd (omega arith);
        firsts = λ j l. absurd (omega arith);
        seconds = λ j l. absurd (omega arith);
        joined = λ x _ l e. absurd (omega (arith, get_or-replicate {A = ℕ} 289 (fibre_number F x) 0 0 (omega (arith, kept.to_288 x l))));
      }

  module _ (k above : ℕ) (marks : List ℕ) (m : Marks F n S k above marks) (rank : InRank F n above (first_of S k) (second_of S k)) where
    -- a fibre of splice k that bears its mark is joined already
    marked-twice : (x : ℕ) → above ≤ x → x < n → Joins S k x → Marked F marks x → SpliceRule F n S k → ⊥
    unfolding Joins
    marked-twice x l u joins e rule = let (j, before, same) = m.joined x l u e in rule.once j x before (inr (sym same)) joins

    -- a second index is not one of the next splice's where neither of its fibres bears a mark
    unmarked : (j x : ℕ) → j < k → above ≤ x → (Marked F marks x → ⊥) → Joins S j x → ⊥
    unfolding Joins
    unmarked j x l u free (inl e) = omega (arith, m.firsts j l)
    unmarked j x l u free (inr e) = free (subst (Marked F marks) (sym e) (m.seconds j l (omega arith)))

    unmarked-once : (Marked F marks (first_of S k) → ⊥) → (Marked F marks (second_of S k) → ⊥) → (j x : ℕ) → j < k → Joins S j x → Joins S k x → ⊥
    unfolding Joins
    unmarked-once a b j x l joins (inl e) = unmarked j x l (omega (arith, rank.risen)) (λ t. a (subst (Marked F marks) e t)) joins
    unmarked-once a b j x l joins (inr e) = unmarked j x l (omega (arith, rank.risen, rank.lower)) (λ t. b (subst (Marked F marks) e t)) joins

    splice-kept : (Marked F marks (first_of S k) → ⊥) → (Marked F marks (second_of S k) → ⊥) → SpliceRule F n S k
    splice-kept a b =
        record {
          lower = rank.lower;
          fibres = rank.fibres;
          same_closure = rank.same_closure;
          ascending = λ some. omega (arith, m.firsts (k - 1) (omega arith), rank.risen);
          once = unmarked-once a b;
        }

    -- the mark of the second fibre
    abbrev next : List ℕ
    next = set marks (fibre_number F (second_of S k)) (closure_of F (second_of S k) + 1)

    in-marks : (x : ℕ) → x < n → fibre_number F x < length marks
    in-marks x l = omega (arith, kept.to_288 x l, m.size)

    new-mark : Marked F next (second_of S k)
    new-mark = get_or-set_same marks (fibre_number F (second_of S k)) (closure_of F (second_of S k) + 1) 0 (in-marks (second_of S k) rank.fibres)

    -- a mark at another number is as it was
    old-mark : (x : ℕ) → fibre_number F x ≢ fibre_number F (second_of S k) → get_or next (fibre_number F x) 0 ≡ get_or marks (fibre_number F x) 0
    old-mark x ne = get_or-set_other marks (fibre_number F (second_of S k)) (fibre_number F x) (closure_of F (second_of S k) + 1) 0 ne

    same_number : (x : ℕ) → fibre_number F x ≡ fibre_number F (second_of S k) → get_or next (fibre_number F x) 0 ≡ closure_of F (second_of S k) + 1
    same_number x e = ap (λ (i : ℕ). get_or next i 0) e ∙ new-mark

    -- an earlier second from here on lies in the closure of splice k: its first lies below this first
    reached : (j : ℕ) → j < k → SpliceRule F n S j → first_of S k + 1 ≤ second_of S j → closure_of F (second_of S j) ≡ closure_of F (second_of S k)
    reached j l rule u =
        let low = kept.ascending (first_of S j) (first_of S k) (omega (arith, m.firsts j l, rank.risen)) (omega (arith, rank.lower, rank.fibres)) in
        let high = kept.ascending (first_of S k) (second_of S j) (omega arith) rule.fibres in
        omega (arith, low, high, rule.same_closure, rank.same_closure)

    seconds-more : ((j : ℕ) → j < k → SpliceRule F n S j) → (j : ℕ) → j < k + 1 → first_of S k + 1 ≤ second_of S j → Marked F next (second_of S j)
    seconds-more rules j l u =
        elim (ℕ_discrete j k) [
          | yes e ↦ subst (λ (i : ℕ). Marked F next (second_of S i)) (sym e) new-mark
          | no ne ↦ elim (ℕ_discrete (fibre_number F (second_of S j)) (fibre_number F (second_of S k))) [
            | yes e ↦ same_number (second_of S j) e ∙ ap (λ (i : ℕ). i + 1) (sym (reached j (omega arith) (rules j (omega arith)) u))
            | no other ↦ old-mark (second_of S j) other ∙ m.seconds j (omega arith) (omega (arith, rank.risen))
          ]
        ]

    -- of one closure and one number there is one fibre
    the_second : (x : ℕ) → x < n → fibre_number F x ≡ fibre_number F (second_of S k) → closure_of F x ≡ closure_of F (second_of S k) → second_of S k ≡ x
    the_second x u same closures =
        elim (dec_lt x (second_of S k)) [
          | yes l ↦ absurd (kept.different x (second_of S k) l rank.fibres closures same)
          | no ge ↦ elim (dec_lt (second_of S k) x) [
            | yes l ↦ absurd (kept.different (second_of S k) x l u (sym closures) (sym same))
            | no le ↦ omega arith
          ]
        ]

    joined-more : (x : ℕ) → first_of S k + 1 ≤ x → x < n → Marked F next x → (j : ℕ) × (j < k + 1) × (second_of S j ≡ x)
    joined-more x l u e =
        elim (ℕ_discrete (fibre_number F x) (fibre_number F (second_of S k))) [
          | yes same ↦ (k, omega arith, the_second x u same (omega (arith, e, same_number x same)))
          | no other ↦ let (j, before, is) = m.joined x (omega (arith, rank.risen)) u (sym (old-mark x other) ∙ e) in (j, omega arith, is)
        ]

    marks-more : ((j : ℕ) → j < k → SpliceRule F n S j) → Marks F n S (k + 1) (first_of S k + 1) next
    marks-more rules =
        record {
          size = length-set marks (fibre_number F (second_of S k)) (closure_of F (second_of S k) + 1) ∙ m.size;
          start = λ e. absurd (omega arith);
          follows = λ _. let e : k + 1 - 1 ≡ k = omega arith in rw e (omega arith);
          firsts = λ j l. elim (ℕ_discrete j k) [
            | yes e ↦ subst (λ (i : ℕ). first_of S i < first_of S k + 1) (sym e) (omega arith)
            | no ne ↦ omega (arith, m.firsts j (omega arith), rank.risen)
          ];
          seconds = seconds-more rules;
          joined = joined-more;
        }

  -- the same with the indexes as they were read
  module _ (k above : ℕ) (marks : List ℕ) (m : Marks F n S k above marks) (a b : ℕ) (ea : a ≡ first_of S k) (eb : b ≡ second_of S k) where
    in-rank : InRank F n above a b → InRank F n above (first_of S k) (second_of S k)
    in-rank rank = rw (sym ea, sym eb) rank

    pub out-of-rank : (InRank F n above a b → ⊥) → SpliceRule F n S k → ⊥
    out-of-rank bad rule =
        bad (rw (ea, eb)
        (record {
          risen = elim (dec_lt 0 k) [ yes some ↦ omega (arith, m.follows some, rule.ascending some) | no none ↦ omega (arith, m.start (omega arith)) ];
          lower = rule.lower;
          fibres = rule.fibres;
          same_closure = rule.same_closure;
        }))

    pub joined-twice : InRank F n above a b → (Marked F marks a ⊎ Marked F marks b) → SpliceRule F n S k → ⊥
    unfolding Joins
    joined-twice rank (inl e) = marked-twice k above marks m (in-rank rank) a rank.risen (omega (arith, rank.lower, rank.fibres)) (inl ea) e
    joined-twice rank (inr e) = marked-twice k above marks m (in-rank rank) b (omega (arith, rank.lower, rank.risen)) rank.fibres (inr eb) e

    pub spliced : InRank F n above a b → ((Marked F marks a ⊎ Marked F marks b) → ⊥) → SpliceRule F n S k
    spliced rank free = splice-kept k above marks m (in-rank rank) (λ e. free (inl (rw ea e))) (λ e. free (inr (rw eb e)))

    pub marks-next : InRank F n above a b → ((j : ℕ) → j < k → SpliceRule F n S j) → (next : List ℕ) → next ≡ set marks (fibre_number F b) (closure_of F b + 1)
        → Marks F n S (k + 1) (a + 1) next
    marks-next rank rules next e = rw (e, ea, eb) (marks-more k above marks m (in-rank rank) rules)
