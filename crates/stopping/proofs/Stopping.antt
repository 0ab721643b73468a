-- Stopping sets over any family of lines: the union of two is one, so the largest is the largest by inclusion and by size; a line with one or
-- two cells of a set that holds every stopping set has none of theirs, so it can be peeled; and where no such line is left, what is left is the
-- largest.
use mathlib.Core.Path.{◌≡◌, refl, sym, ap, ◌∙◌}
use mathlib.Core.Bool.{Bool, true, false, cond, false≢true}
use mathlib.Core.Logic.{◌≢◌, ◌↔◌, ◌⊎◌, inl, inr, ⊎_elim}
use Prim.Native.Nat.{ℕ, ◌+◌, ◌*◌, ◌≤◌, ◌<◌}
use native.Mathlib.Decide.{dec_lt}
use native.Mathlib.Omega.{arith}
use native.Mathlib.Nat.{le_trans, le_antisymm}
use Rattle.stopping.specs.Stopping.{number, on_line, Stopping, Largest}
use Rattle.stopping.proofs.Number.{true-or-false, not-true-false, number-cong, number-mono, number-none, number-zero, number_same}

-- ---- sets below a number of cells

-- every member of P below n is one of Q
abbrev pub Inside : ℕ → (ℕ → Bool) → (ℕ → Bool) → Type 0
Inside n P Q = (i : ℕ) → i < n → P i ≡ true → Q i ≡ true

-- every cell of every line is below `cells`
abbrev pub Fits : ℕ → (ℕ → ℕ → ℕ → Type 0) → Type 0
Fits cells L = (first stride len : ℕ) → L first stride len → (i : ℕ) → i < len → first + stride * i < cells

pub same-members : (a b : Bool) → (a ≡ true → b ≡ true) → (b ≡ true → a ≡ true) → a ≡ b
same-members true b f g = sym (f refl)
same-members false b f g = sym (not-true-false b (λ e. absurd (false≢true (g e))))

unfoldable pub union : (ℕ → Bool) → (ℕ → Bool) → ℕ → Bool
union P Q n = cond (P n) true (Q n)

pub union_left : (P Q : ℕ → Bool) (n : ℕ) → P n ≡ true → union P Q n ≡ true
unfolding union
union_left P Q n e = ap (λ (b : Bool). cond b true (Q n)) e

pub union_right : (P Q : ℕ → Bool) (n : ℕ) → Q n ≡ true → union P Q n ≡ true
unfolding union
union_right P Q n e =
    ⊎_elim (λ f. union_left P Q n f) (λ f. ap (λ (b : Bool). cond b true (Q n)) f ∙ e) (true-or-false (P n))

pub union-cases : (P Q : ℕ → Bool) (n : ℕ) → union P Q n ≡ true → (P n ≡ true) ⊎ (Q n ≡ true)
unfolding union
union-cases P Q n e =
    ⊎_elim (λ f. inl f) (λ f. inr (sym (ap (λ (b : Bool). cond b true (Q n)) f) ∙ e)) (true-or-false (P n))

pub union-neither : (P Q : ℕ → Bool) (n : ℕ) → P n ≡ false → Q n ≡ false → union P Q n ≡ false
unfolding union
union-neither P Q n e f = ap (λ (b : Bool). cond b true (Q n)) e ∙ f

-- ---- a set on a line

pub on_line-mono : (P Q : ℕ → Bool) (first stride len : ℕ) → ((i : ℕ) → i < len → P (first + stride * i) ≡ true → Q (first + stride * i) ≡ true)
    → on_line P first stride len ≤ on_line Q first stride len
unfolding on_line
on_line-mono P Q first stride len h = number-mono _ _ len h

pub on_line-cong : (P Q : ℕ → Bool) (first stride len : ℕ) → ((i : ℕ) → i < len → P (first + stride * i) ≡ Q (first + stride * i))
    → on_line P first stride len ≡ on_line Q first stride len
unfolding on_line
on_line-cong P Q first stride len h = number-cong _ _ len h

pub on_line-none : (P : ℕ → Bool) (first stride len : ℕ) → ((i : ℕ) → i < len → P (first + stride * i) ≡ false) → on_line P first stride len ≡ 0
unfolding on_line
on_line-none P first stride len h = number-none _ len h

pub on_line-zero : (P : ℕ → Bool) (first stride len : ℕ) → on_line P first stride len ≡ 0 → (i : ℕ) → i < len → P (first + stride * i) ≡ false
unfolding on_line
on_line-zero P first stride len z = number-zero _ len z

-- a number of cells is one that stops, or one that a line can be peeled at
pub stops-or-peels : (m : ℕ) → ((m ≡ 0) ⊎ (3 ≤ m)) ⊎ ((1 ≤ m) × (m ≤ 2))
stops-or-peels m =
    elim (dec_lt m 1) [
      | yes z ↦ inl (inl (omega arith))
      | no nz ↦ elim (dec_lt m 3) [ yes l ↦ inr (omega arith) | no g ↦ inl (inr (omega arith)) ]
    ]

-- ---- stopping sets

module _ {cells : ℕ} {L : ℕ → ℕ → ℕ → Type 0} where
  pub stopping-empty : (M : ℕ → Bool) → Stopping cells L M (λ n. false)
  stopping-empty M =
      record {
        inside = λ n l e. absurd (false≢true e);
        meets = λ f s n l. inl (on_line-none (λ _. false) f s n (λ i m. refl));
      }

  pub stopping-union : {M S T : ℕ → Bool} → Stopping cells L M S → Stopping cells L M T → Stopping cells L M (union S T)
  stopping-union {M} {S} {T} u v =
      record {
        inside = λ n l e. ⊎_elim (u.inside n l) (v.inside n l) (union-cases S T n e);
        meets = λ f s n l.
            ⊎_elim
            (λ z.
            ⊎_elim
            (λ y.
            inl
            (on_line-none (union S T) f s n (λ i m.
            union-neither S T (f + s * i) (on_line-zero S f s n z i m) (on_line-zero T f s n y i m))))
            (λ y. inr (le_trans y (on_line-mono T (union S T) f s n (λ i m. union_right S T (f + s * i))))) (v.meets f s n l))
            (λ z. inr (le_trans z (on_line-mono S (union S T) f s n (λ i m. union_left S T (f + s * i))))) (u.meets f s n l);
      }

  pub stopping-mono : {M M' S : ℕ → Bool} → Inside cells M M' → Stopping cells L M S → Stopping cells L M' S
  stopping-mono h u = record { inside = λ n l e. h n l (u.inside n l e); meets = u.meets }

  -- what is above the cells does not count
  pub stopping-cong : {M S T : ℕ → Bool} → Fits cells L → ((n : ℕ) → n < cells → S n ≡ T n) → Stopping cells L M S → Stopping cells L M T
  stopping-cong {M} {S} {T} fits h u =
      record {
        inside = λ n l e. u.inside n l (h n l ∙ e);
        meets = λ f s n l. rw (← (on_line-cong S T f s n (λ i m. h (f + s * i) (fits f s n l i m)))) (u.meets f s n l);
      }

  -- ---- the largest

  pub largest-unique : {M K K' : ℕ → Bool} → Largest cells L M K → Largest cells L M K' → (n : ℕ) → n < cells → K n ≡ K' n
  largest-unique {M} {K} {K'} u v n l = same-members (K n) (K' n) (v.every K u.stopping n l) (u.every K' v.stopping n l)

  pub largest-cong : {M K K' : ℕ → Bool} → Fits cells L → ((n : ℕ) → n < cells → K n ≡ K' n) → Largest cells L M K → Largest cells L M K'
  largest-cong fits h u =
      record {
        stopping = stopping-cong fits h u.stopping;
        every = λ S v n l e. sym (h n l) ∙ u.every S v n l e;
      }

  -- of the missing cells too only those below the number of cells count
  pub largest-missing : {M M' K : ℕ → Bool} → ((n : ℕ) → n < cells → M n ≡ M' n) → Largest cells L M K → Largest cells L M' K
  largest-missing h u =
      record {
        stopping = stopping-mono (λ n l e. sym (h n l) ∙ e) u.stopping;
        every = λ S v. u.every S (stopping-mono (λ n l e. h n l ∙ e) v);
      }

  pub largest-mono : {M M' K K' : ℕ → Bool} → Inside cells M M' → Largest cells L M K → Largest cells L M' K' → Inside cells K K'
  largest-mono {M} {M'} {K} h u v = v.every K (stopping-mono h u.stopping)

  -- "the union of all"
  pub largest-union : {M K : ℕ → Bool} → Largest cells L M K → (n : ℕ) → n < cells
      → (K n ≡ true) ↔ ((S : ℕ → Bool) × Stopping cells L M S × (S n ≡ true))
  largest-union {M} {K} u n l = (λ e. (K, u.stopping, e), λ w. u.every w.0 w.1 n l w.2)

  -- the largest by inclusion is the largest by size, and the other way round
  pub largest_size : {M K S : ℕ → Bool} → Largest cells L M K → Stopping cells L M S → number S cells ≤ number K cells
  largest_size {M} {K} {S} u v = number-mono S K cells (u.every S v)

  pub size-largest : {M K : ℕ → Bool} → Stopping cells L M K → ((S : ℕ → Bool) → Stopping cells L M S → number S cells ≤ number K cells)
      → Largest cells L M K
  size-largest {M} {K} u h =
      record {
        stopping = u;
        every = λ S v n l e.
            number_same K (union K S) cells (λ i m. union_left K S i)
            (le_antisymm (number-mono K (union K S) cells (λ i m. union_left K S i)) (h (union K S) (stopping-union u v))) n l
            ∙ union_right K S n e;
      }

  -- no more than the missing cells
  pub stopping-size : {M S : ℕ → Bool} → Stopping cells L M S → number S cells ≤ number M cells
  stopping-size {M} {S} u = number-mono S M cells u.inside

  -- ---- peeling

  pub peel : {M S R : ℕ → Bool} → Fits cells L → Stopping cells L M S → Inside cells S R → (first stride len : ℕ) → L first stride len
      → on_line R first stride len ≤ 2 → (i : ℕ) → i < len → S (first + stride * i) ≡ false
  peel {M} {S} {R} fits u h f s n l few =
      on_line-zero S f s n
      (⊎_elim (λ z. z)
      (λ (g : 3 ≤ on_line S f s n).
      absurd (omega (arith, on_line-mono S R f s n (λ i m. h (f + s * i) (fits f s n l i m)))))
      (u.meets f s n l))

  -- a line peeled off R leaves each stopping set inside
  pub peel-inside : {M S R R' : ℕ → Bool} → Fits cells L → Stopping cells L M S → Inside cells S R
      → (first stride len : ℕ) → L first stride len → on_line R first stride len ≤ 2
      → ((n : ℕ) → n < cells → ((i : ℕ) → i < len → n ≢ first + stride * i) → R n ≡ true → R' n ≡ true) → Inside cells S R'
  peel-inside {M} {S} {R} {R'} fits u h f s len l few off n m e =
      off n m (λ i q d. false≢true (sym (peel fits u h f s len l few i q) ∙ sym (ap S d) ∙ e)) (h n m e)

  -- where no line is left to peel, what is left is the largest
  pub peel-end : {M R : ℕ → Bool} → Inside cells R M → ((S : ℕ → Bool) → Stopping cells L M S → Inside cells S R)
      → ((first stride len : ℕ) → L first stride len → (on_line R first stride len ≡ 0) ⊎ (3 ≤ on_line R first stride len)) → Largest cells L M R
  peel-end h every stops = record { stopping = record { inside = h; meets = stops }; every = every }
