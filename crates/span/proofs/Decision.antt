-- Answers that decide a statement, and calls that do their work exactly where one holds.
use mathlib.Core.Path.{◌≡◌, refl, sym, subst, ◌∙◌}
use mathlib.Core.Bool.{Bool, true, false, not, true≢false, false≢true}
use mathlib.Core.List.{List}
use Prim.Native.Nat.{ℕ, ◌+◌, ◌-◌, ◌≤◌, ◌<◌}
use native.Mathlib.Omega.{arith}
use lib.Dec.{leb, eqb}
use lib.ListN.{length, get_or}
use denote.Param.Members.{Mut}
use borrow.Author.Tests.{leb-true, le-leb, eqb-true, eq-eqb, not-true, not-false}
use Rattle.std.specs.Prelude.{Option}
use Rattle.std.specs.declared.ops.Range.{Range}
use Rattle.std.specs.Bool.{MatchBool}
use Rattle.std.specs.Fn.{Called}
use Rattle.std.specs.Iterator.{YieldsThen}
use Rattle.std.specs.List.{AllWithin, HoldsAt, FoldsTo, range_with_len}
use Rattle.std.specs.Option.{MatchOption}
use Rattle.std.proofs.iter.Yields.{nat_range_steps}
use Rattle.std.proofs.lemmas.Iterator.{YieldsList-from_range, cases_from_all}
use Rattle.std.proofs.lemmas.List.FromFn.{length-range_with_len, get_or-range_with_len}
use Rattle.span.specs.Decision.{Decides, Cases}

pub decides-yes : {P : Type 0} → P → Decides P true
decides-yes p = record { yes_when = λ q. refl; yes_then = λ e. p }

pub decides-no : {P : Type 0} → (P → ⊥) → Decides P false
decides-no n = record { yes_when = λ p. absurd (n p); yes_then = λ e. absurd (false≢true e) }

pub decides-le : {P : Type 0} (a b : ℕ) → (P → a ≤ b) → (a ≤ b → P) → Decides P (leb a b)
decides-le a b f g = record { yes_when = λ p. le-leb a b (f p); yes_then = λ e. g (leb-true a b e) }

pub decides_eq : {P : Type 0} (a b : ℕ) → (P → a ≡ b) → (a ≡ b → P) → Decides P (eqb a b)
decides_eq a b f g = record { yes_when = λ p. eq-eqb a b (f p); yes_then = λ e. g (eqb-true a b e) }

pub decides-map : {P Q : Type 0} {answer : Bool} → (P → Q) → (Q → P) → Decides P answer → Decides Q answer
decides-map f g d = record { yes_when = λ q. d.yes_when (g q); yes_then = λ e. f (d.yes_then e) }

-- two answers that decide one statement are the same
pub decides-same : {P : Type 0} (a b : Bool) → Decides P a → Decides P b → a ≡ b
decides-same true b d e = sym (e.yes_when (d.yes_then refl))
decides-same false true d e = d.yes_when (e.yes_then refl)
decides-same false false d e = refl

-- where the answer is false
pub decides-false : {P : Type 0} {answer : Bool} → Decides P answer → answer ≡ false → P → ⊥
decides-false d e p = true≢false (sym (d.yes_when p) ∙ e)

-- where it is true
pub decides-true : {P : Type 0} {answer : Bool} → Decides P answer → answer ≡ true → P
decides-true d e = d.yes_then e

-- by a negated answer
pub decides-refuted : {P : Type 0} {answer : Bool} → Decides P answer → not answer ≡ true → P → ⊥
decides-refuted d e p = decides-false d (not-true _ e) p

pub decides-proved : {P : Type 0} {answer : Bool} → Decides P answer → not answer ≡ false → P
decides-proved d e = d.yes_then (not-false _ e)

pub cases_done : {P Done Refused : Type 0} → P → Done → Cases P Done Refused
cases_done p d = record { done = λ q. d; refused = λ n. absurd (n p) }

pub cases-refused : {P Done Refused : Type 0} → (P → ⊥) → Refused → Cases P Done Refused
cases-refused n r = record { done = λ p. absurd (n p); refused = λ m. r }

-- `all` over the numbers below n, by a closure whose answer decides P of its number
pub decides_all : {F : Type 0} {g : Mut F (ℕ × Unit {0}) Bool} (n : ℕ) (u : Range ℕ) (f : F) (answer : Bool) (P : ℕ → Type 0)
    → (xs : List ℕ) × (o : Option ℕ) × (j : F) × YieldsThen nat_range_steps (record { start = 0; end = n }) xs o u
    × FoldsTo (λ p x q. Called g p (x, tt) true q) f xs j × MatchOption o (answer ≡ true) (λ x. (answer ≡ false) × ((h : F) × Called g j (x, tt) false h))
    → ((x : ℕ) (b : Bool) (q : F) → Called g f (x, tt) b q → (q ≡ f) × Decides (P x) b)
    → Decides ((k : ℕ) → k < n → P k) answer
decides_all n u f answer P ran decided =
    by answer
    (cases_from_all u f answer P (λ x. P x → ⊥) ran (YieldsList-from_range 0 n n refl (omega arith))
    (λ x q k. let d = decided x true q k in (d.0, d.1.yes_then refl))
    (λ x q k. decides-false (decided x false q k).1 refl))
  where
    all : List ℕ
    all = range_with_len 0 n

    long : length all ≡ n
    long = length-range_with_len 0 n

    at : (k : ℕ) → k < n → get_or all k 0 ≡ k
    at k l = omega (arith, get_or-range_with_len 0 n k 0 l)

    by : (b : Bool) → MatchBool b (AllWithin P all 0 (length all)) ((k : ℕ) × (k < length all) × HoldsAt (λ x. P x → ⊥) all k)
        → Decides ((k : ℕ) → k < n → P k) b
    by true h = decides-yes (λ k l. subst P (at k l) (h k 0 (omega arith) (omega (arith, long))))
    by false h =
        let l : h.0 < n = omega (arith, long, h.1) in
        decides-no (λ p. h.2 0 (subst P (sym (at h.0 l)) (p h.0 l)))
