-- The cells of a set on a line, place after place: their number and, while there are one or two, which they are.
use mathlib.Core.Path.{◌≡◌, refl, sym, ap, ◌∙◌}
use mathlib.Core.Bool.{Bool, true, false}
use mathlib.Core.Logic.{◌≢◌}
use Prim.Native.Nat.{ℕ, ◌+◌, ◌*◌, ◌≤◌, ◌<◌}
use native.Mathlib.Numerals.{add-one}
use native.Mathlib.Decide.{ℕ_discrete, dec_lt}
use native.Mathlib.Omega.{arith}
use Rattle.stopping.specs.Stopping.{number, on_line}
use Rattle.stopping.proofs.Number.{number-nil, number_in, number-out, number-inc, number-zero, rank_lt, rank-injective}
use Rattle.erasures.specs.Erasures.{Scanned}

module _ (M : ℕ → Bool) (start stride : ℕ) where
  pub line-in : (n : ℕ) → M (start + stride * n) ≡ true → on_line M start stride (n + 1) ≡ on_line M start stride n + 1
  unfolding on_line
  line-in n e = ap (number (λ i. M (start + stride * i))) (add-one n) ∙ number_in (λ i. M (start + stride * i)) n e

  line-out : (n : ℕ) → M (start + stride * n) ≡ false → on_line M start stride (n + 1) ≡ on_line M start stride n
  unfolding on_line
  line-out n e = ap (number (λ i. M (start + stride * i))) (add-one n) ∙ number-out (λ i. M (start + stride * i)) n e

  line-nil : on_line M start stride 0 ≡ 0
  unfolding on_line
  line-nil = number-nil (λ i. M (start + stride * i))

  line-empty : (n : ℕ) → on_line M start stride n ≡ 0 → (i : ℕ) → i < n → M (start + stride * i) ≡ false
  unfolding on_line
  line-empty n e = number-zero (λ i. M (start + stride * i)) n e

  pub line-longer : (n len : ℕ) → n ≤ len → on_line M start stride n ≤ on_line M start stride len
  unfolding on_line
  line-longer n len le = number-inc (λ i. M (start + stride * i)) n len le

  line-rank : (i j : ℕ) → M (start + stride * i) ≡ true → i < j → on_line M start stride i < on_line M start stride j
  unfolding on_line
  line-rank i j e l = rank_lt (λ k. M (start + stride * k)) i j l e

  line-place : (i j : ℕ) → M (start + stride * i) ≡ true → M (start + stride * j) ≡ true → on_line M start stride i ≡ on_line M start stride j → i ≡ j
  unfolding on_line
  line-place = rank-injective (λ k. M (start + stride * k))

  -- ---- what follows of what was found

  module _ (len count first last : ℕ) (s : Scanned M start stride len count first last) where
    -- the line itself has so many
    pub scanned-few : count < 3 → on_line M start stride len < 3
    scanned-few few = omega (arith, s.number)

    pub scanned-many : 3 ≤ count → 3 ≤ on_line M start stride len
    scanned-many three = omega (arith, s.number)

    pub scanned-order : 1 ≤ count → first ≤ last
    scanned-order some =
        elim (dec_lt last first) [
          | yes l ↦ absurd (omega (arith, line-rank last first (s.at_last some) l, s.before some))
          | no n ↦ omega arith
        ]

    pub scanned-one : count ≡ 1 → first ≡ last
    scanned-one one =
        let some : 1 ≤ count = omega arith in
        line-place first last (s.at_first some) (s.at_last some) (omega (arith, s.before some, s.rank some))

    pub scanned-two : count ≡ 2 → first < last
    scanned-two two =
        let some : 1 ≤ count = omega arith in
        elim (dec_lt first last) [
          | yes l ↦ l
          | no n ↦
              let same : first ≡ last = omega (arith, scanned-order some) in
              absurd (omega (arith, ap (on_line M start stride) same, s.before some, s.rank some))
        ]

    -- what is found on a line is determined
    pub scanned-determined : (count' first' last' : ℕ) → Scanned M start stride len count' first' last' → (count ≡ count') × (first ≡ first') × (last ≡ last')
    scanned-determined count' first' last' t =
        let same : count ≡ count' = s.number ∙ sym t.number in
        elim (ℕ_discrete count 0) [
          | yes z ↦
              let some = s.none z in
              let other = t.none (sym same ∙ z) in
              (same, some.0 ∙ sym other.0, some.1 ∙ sym other.1)
          | no nz ↦
              let some : 1 ≤ count = omega arith in
              let other : 1 ≤ count' = omega arith in (
                same,
                line-place first first' (s.at_first some) (t.at_first other) (s.before some ∙ sym (t.before other)),
                line-place last last' (s.at_last some) (t.at_last other) (omega (arith, s.rank some, t.rank other)),
              )
        ]

  -- ---- place after place

  pub scanned-none : Scanned M start stride 0 0 0 0
  scanned-none =
      record {
        number = omega (arith, line-nil);
        none = λ e. (refl, refl);
        bound = λ l. omega arith;
        at_first = λ l. absurd (omega arith);
        before = λ l. line-nil;
        at_last = λ l. absurd (omega arith);
        rank = λ l. absurd (omega arith);
        others = λ l i m. absurd (omega arith);
      }

  pub scanned-skip : (n count first last : ℕ) → Scanned M start stride n count first last → M (start + stride * n) ≡ false
      → Scanned M start stride (n + 1) count first last
  scanned-skip n count first last s e =
      record {
        number = omega (arith, s.number, line-out n e);
        none = s.none;
        bound = λ l. omega (arith, s.bound l);
        at_first = s.at_first;
        before = s.before;
        at_last = s.at_last;
        rank = s.rank;
        others = λ l i m a b.
            elim (ℕ_discrete i n) [ yes g ↦ ap (λ (k : ℕ). M (start + stride * k)) g ∙ e | no d ↦ s.others l i (omega arith) a b ];
      }

  -- a first cell, and one more
  pub scanned-first : (n count first last : ℕ) → Scanned M start stride n count first last → M (start + stride * n) ≡ true → count ≡ 0
      → Scanned M start stride (n + 1) (count + 1) n n
  scanned-first n count first last s e z =
      record {
        number = omega (arith, s.number, line-in n e);
        none = λ f. absurd (omega arith);
        bound = λ l. omega arith;
        at_first = λ l. e;
        before = λ l. omega (arith, s.number);
        at_last = λ l. e;
        rank = λ l. omega (arith, s.number);
        others = λ l i m a b. line-empty n (omega (arith, s.number)) i (omega arith);
      }

  pub scanned-next : (n count first last : ℕ) → Scanned M start stride n count first last → M (start + stride * n) ≡ true → count ≢ 0 → count < 3
      → Scanned M start stride (n + 1) (count + 1) first n
  scanned-next n count first last s e nz lt =
      let some : 1 ≤ count = omega arith in
      record {
        number = omega (arith, s.number, line-in n e);
        none = λ f. absurd (omega arith);
        bound = λ l. omega arith;
        at_first = λ l. s.at_first some;
        before = λ l. s.before some;
        at_last = λ l. e;
        rank = λ l. omega (arith, s.number);
        others = λ l i m a b.
            let same : first ≡ last = scanned-one n count first last s (omega arith) in
            s.others (omega arith) i (omega arith) a (λ g. a (g ∙ sym same));
      }

  -- with three cells found the rest of the line does not matter
  pub scanned-three : (n len count first last : ℕ) → Scanned M start stride n count first last → 3 ≤ count → n ≤ len → Scanned M start stride len count first last
  scanned-three n len count first last s three le =
      record {
        number = omega (arith, s.number, line-longer n len le);
        none = s.none;
        bound = λ l. omega (arith, s.bound l);
        at_first = s.at_first;
        before = s.before;
        at_last = s.at_last;
        rank = s.rank;
        others = λ l. absurd (omega arith);
      }
