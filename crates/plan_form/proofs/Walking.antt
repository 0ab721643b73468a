-- The walks through closures and fibres: what was read, one more, the first that breaks a rule; and whether a closure is listed.
use mathlib.Core.Path.{◌≡◌}
use mathlib.Core.Logic.{inl, inr}
use Prim.Native.Nat.{ℕ, ◌+◌, ◌-◌, ◌*◌, ◌≤◌, ◌<◌}
use native.Mathlib.Omega.{arith}
use native.Mathlib.Decide.{dec_lt}
use borrow.Author.Count.{below_more}
use Rattle.plan_form.specs.Entries.{Entries, closure_at, ClosureRule, closure_of, fibre_number, Precedes, Listed, FibreRule}
use Rattle.plan_form.specs.Inner.Checks.{FirstKept, Walked}
use Rattle.plan_form.proofs.Ascending.{closures-ascend}

-- k entries keep their rule, and the next breaks it
pub stopped : {Rule : ℕ → Type 0} {n k : ℕ} → k < n → ((j : ℕ) → j < k → Rule j) → (Rule k → ⊥) → FirstKept Rule n k
stopped l before broken = record { bound = omega (arith, l); before = before; here = λ _. broken }

-- k closures keep their rule, and the next may not lie below `least`
pub record ClosuresRead (C : Entries) (k least : ℕ) : Type 0 where
  pub kept : (j : ℕ) → j < k → ClosureRule C j
  pub start : k ≡ 0 → least ≡ 0
  pub follows : 0 < k → least ≡ closure_at C (k - 1) + 1

module _ (C : Entries) where
  pub closures-none : ClosuresRead C 0 0
  closures-none = record { kept = λ j l. absurd (omega arith); start = λ _. omega arith; follows = λ l. absurd (omega arith) }

  module _ (k least : ℕ) (r : ClosuresRead C k least) where
    pub closure-broken : closure_at C k < least → ClosureRule C k → ⊥
    closure-broken l rule =
        elim (dec_lt 0 k) [
          | yes some ↦ omega (arith, r.follows some, rule.ascending some)
          | no none ↦ omega (arith, r.start (omega arith))
        ]

    pub closures-more : least ≤ closure_at C k → ClosuresRead C (k + 1) (closure_at C k + 1)
    closures-more l =
        record {
          kept = below_more _ k r.kept (record { ascending = λ some. omega (arith, r.follows some) });
          start = λ e. absurd (omega arith);
          follows = λ _. let e : k + 1 - 1 ≡ k = omega arith in rw e (omega arith);
        }

-- ---- listed closures

module _ (C : Entries) (n sought q : ℕ) (walked : Walked C n sought q) where
  pub walked_more : closure_at C q < sought → q < n → Walked C n sought (q + 1)
  walked_more l u = record { bound = omega arith; below = below_more _ q walked.below l }

  -- a number above those before serves as well
  pub walked_on : (next : ℕ) → sought ≤ next → Walked C n next q
  walked_on next l = record { bound = walked.bound; below = λ j m. omega (arith, walked.below j m) }

  -- where the walk ends the number is listed or not
  pub listed_here : q < n → closure_at C q ≡ sought → Listed C n sought
  unfolding Listed
  listed_here l e = (q, l, e)

  pub listed-nowhere : ((k : ℕ) → k < n → ClosureRule C k) → (q < n → sought < closure_at C q) → Listed C n sought → ⊥
  unfolding Listed
  listed-nowhere kept above (j, l, e) =
      elim (dec_lt j q) [
        | yes before ↦ omega (arith, walked.below j before)
        | no behind ↦ elim (dec_lt q j) [
          | yes m ↦ omega (arith, closures-ascend C n kept q j m l, above (omega arith))
          | no same ↦ let here : j ≡ q = omega arith in omega (arith, above (omega arith), rw here at e)
        ]
      ]

-- ---- fibres

-- closure and number as one number, in whose order pairs ascend
abbrev pub pair : Entries → ℕ → ℕ
pair F x = closure_of F x * 65536 + fibre_number F x

-- k fibres keep their rules, the next pair may not lie below `least`, and the closures before q are below any that can follow
pub record FibresRead (C : Entries) (m : ℕ) (F : Entries) (k least q : ℕ) : Type 0 where
  pub kept : (j : ℕ) → j < k → FibreRule C m F j
  pub start : k ≡ 0 → least ≡ 0
  pub follows : 0 < k → least ≡ pair F (k - 1) + 1
  pub walked : (sought : ℕ) → least ≤ sought * 65536 + 65535 → Walked C m sought q

-- what the test of a fibre's number and pair decides
abbrev pub InOrder : Entries → ℕ → ℕ → Type 0
InOrder F least k = (1 ≤ fibre_number F k) × (fibre_number F k ≤ 288) × (least ≤ pair F k)

module _ (C : Entries) (m : ℕ) (F : Entries) where
  pub fibres-none : FibresRead C m F 0 0 0
  fibres-none =
      record {
        kept = λ j l. absurd (omega arith);
        start = λ _. omega arith;
        follows = λ l. absurd (omega arith);
        walked = λ sought _. record { bound = omega arith; below = λ j l. absurd (omega arith) };
      }

  module _ (k least q : ℕ) (r : FibresRead C m F k least q) where
    pair-follows : (0 < k) → Precedes F (k - 1) k → pair F (k - 1) < pair F k
    unfolding Precedes
    pair-follows some (inl l) = omega (arith, (r.kept (k - 1) (omega arith)).to_288)
    pair-follows some (inr (e, l)) = omega arith

    pub rule-in-order : FibreRule C m F k → InOrder F least k
    rule-in-order rule = (
      rule.from_1,
      rule.to_288,
      elim (dec_lt 0 k) [
        | yes some ↦ omega (arith, r.follows some, pair-follows some (rule.ascending some))
        | no none ↦ omega (arith, r.start (omega arith))
      ],
    )

    precedes-next : InOrder F least k → (0 < k) → Precedes F (k - 1) k
    unfolding Precedes
    precedes-next (_, few, l) some =
        elim (dec_lt (closure_of F (k - 1)) (closure_of F k)) [
          | yes less ↦ inl less
          | no more ↦ inr (omega (arith, r.follows some), omega (arith, r.follows some))
        ]

    pub fibre-walked : InOrder F least k → Walked C m (closure_of F k) q
    fibre-walked (_, few, l) = r.walked (closure_of F k) (omega arith)

    pub fibres-more : InOrder F least k → Listed C m (closure_of F k) → (q' : ℕ) → Walked C m (closure_of F k) q' → FibresRead C m F (k + 1) (pair F k + 1) q'
    fibres-more order listed q' walked =
        record {
          kept = below_more _ k r.kept (record { from_1 = order.0; to_288 = order.1; ascending = precedes-next order; listed = listed });
          start = λ e. absurd (omega arith);
          follows = λ _. let e : k + 1 - 1 ≡ k = omega arith in rw e (omega arith);
          walked = λ sought l. walked_on C m (closure_of F k) q' walked sought (omega arith);
        }

    -- the same with the closure and the number as they were read
    module _ (closure number : ℕ) (ec : closure ≡ closure_of F k) (en : number ≡ fibre_number F k) where
      abbrev Ordered : Type 0
      Ordered = (1 ≤ number) × (number ≤ 288) × (least ≤ closure * 65536 + number)

      in_order : Ordered → InOrder F least k
      in_order (low, high, l) = (omega arith, omega arith, omega arith)

      pub disordered : (Ordered → ⊥) → FibreRule C m F k → ⊥
      disordered bad rule = let (low, high, l) = rule-in-order rule in bad (omega arith, omega arith, omega arith)

      pub walked_here : Ordered → Walked C m closure q
      walked_here o = rw ec (fibre-walked (in_order o))

      pub unlisted : (Listed C m closure → ⊥) → FibreRule C m F k → ⊥
      unlisted bad rule = bad (rw ec rule.listed)

      pub read_more : Ordered → Listed C m closure → (q' : ℕ) → Walked C m closure q' → FibresRead C m F (k + 1) (closure * 65536 + number + 1) q'
      read_more o listed q' walked = rw (ec, en) (fibres-more (in_order o) (rw ec at listed) q' (rw ec at walked))
