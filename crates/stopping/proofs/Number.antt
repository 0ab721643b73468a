-- How many numbers below n are in a set. A member's rank is the number of members below it: ranks are different and below the number of
-- members, and each number below that is a rank. So to choose members, and to tell that there are no others, is arithmetic of ranks.
use mathlib.Core.Path.{◌≡◌, refl, sym, ap, ap₂, ◌∙◌}
use mathlib.Core.Bool.{Bool, true, false, cond}
use mathlib.Core.Logic.{◌≢◌, ◌⊎◌, inl, inr, ⊎_elim}
use Prim.Native.Nat.{ℕ, zero, suc, ◌+◌, ◌-◌, ◌*◌, ◌≤◌, ◌<◌}
use native.Mathlib.Decide.{ℕ_discrete, dec_lt}
use native.Mathlib.Omega.{arith}
use native.Mathlib.Nat.{mul-le-mul_right}
use Rattle.stopping.specs.Stopping.{number}

-- ---- one more place

pub true-or-false : (b : Bool) → (b ≡ true) ⊎ (b ≡ false)
true-or-false true = inl refl
true-or-false false = inr refl

pub not-true-false : (b : Bool) → b ≢ true → b ≡ false
not-true-false true h = absurd (h refl)
not-true-false false h = refl

pub number_in : (P : ℕ → Bool) (n : ℕ) → P n ≡ true → number P (suc n) ≡ number P n + 1
unfolding number
number_in P n e = ap (λ (b : Bool). number P n + cond b 1 0) e

pub number-out : (P : ℕ → Bool) (n : ℕ) → P n ≡ false → number P (suc n) ≡ number P n
unfolding number
number-out P n e = ap (λ (b : Bool). number P n + cond b 1 0) e ∙ omega arith

pub number-nil : (P : ℕ → Bool) → number P 0 ≡ 0
unfolding number
number-nil P = refl

-- ---- the number as a function of the set

pub number-cong : (P Q : ℕ → Bool) (n : ℕ) → ((i : ℕ) → i < n → P i ≡ Q i) → number P n ≡ number Q n
unfolding number
number-cong P Q zero h = refl
number-cong P Q (suc n) h =
    ap₂ (λ (m : ℕ) (b : Bool). m + cond b 1 0) (number-cong P Q n (λ i l. h i (omega arith))) (h n (omega arith))

pub number-mono : (P Q : ℕ → Bool) (n : ℕ) → ((i : ℕ) → i < n → P i ≡ true → Q i ≡ true) → number P n ≤ number Q n
number-mono P Q zero h = omega (arith, number-nil P)
number-mono P Q (suc n) h =
    let less : number P n ≤ number Q n = number-mono P Q n (λ i l. h i (omega arith)) in
    ⊎_elim (λ e. omega (arith, number_in P n e, number_in Q n (h n (omega arith) e)))
    (λ e.
    ⊎_elim (λ f. omega (arith, number-out P n e, number_in Q n f)) (λ f. omega (arith, number-out P n e, number-out Q n f))
    (true-or-false (Q n)))
    (true-or-false (P n))

pub number-le : (P : ℕ → Bool) (n : ℕ) → number P n ≤ n
number-le P zero = omega (arith, number-nil P)
number-le P (suc n) =
    let less : number P n ≤ n = number-le P n in
    ⊎_elim (λ e. omega (arith, number_in P n e)) (λ e. omega (arith, number-out P n e)) (true-or-false (P n))

pub number-all : (P : ℕ → Bool) (n : ℕ) → ((i : ℕ) → i < n → P i ≡ true) → number P n ≡ n
number-all P zero h = number-nil P
number-all P (suc n) h = omega (arith, number_in P n (h n (omega arith)), number-all P n (λ i l. h i (omega arith)))

pub number-none : (P : ℕ → Bool) (n : ℕ) → ((i : ℕ) → i < n → P i ≡ false) → number P n ≡ 0
number-none P zero h = number-nil P
number-none P (suc n) h = number-out P n (h n (omega arith)) ∙ number-none P n (λ i l. h i (omega arith))

-- no member from n on
pub number-rest : (P : ℕ → Bool) (n len : ℕ) → n ≤ len → ((k : ℕ) → n ≤ k → k < len → P k ≡ false) → number P len ≡ number P n
number-rest P n zero le h = let e : n ≡ 0 = omega arith in rw e refl
number-rest P n (suc len) le h =
    elim (ℕ_discrete n (suc len)) [
      | yes e ↦ rw e refl
      | no ne ↦
          number-out P len (h len (omega arith) (omega arith)) ∙ number-rest P n len (omega arith) (λ k l m. h k l (omega arith))
    ]

-- ---- ranks

pub number-inc : (P : ℕ → Bool) (i n : ℕ) → i ≤ n → number P i ≤ number P n
number-inc P i zero l =
    let e : i ≡ 0 = omega arith in
    rw e (omega arith)
number-inc P i (suc n) l =
    elim (ℕ_discrete i (suc n)) [
      | yes e ↦ rw e (omega arith)
      | no ne ↦
          let less : number P i ≤ number P n = number-inc P i n (omega arith) in
          ⊎_elim (λ e. omega (arith, number_in P n e)) (λ e. omega (arith, number-out P n e)) (true-or-false (P n))
    ]

pub rank_lt : (P : ℕ → Bool) (i n : ℕ) → i < n → P i ≡ true → number P i < number P n
rank_lt P i n l e = omega (arith, number_in P i e, number-inc P (suc i) n l)

pub rank-injective : (P : ℕ → Bool) (i j : ℕ) → P i ≡ true → P j ≡ true → number P i ≡ number P j → i ≡ j
rank-injective P i j ei ej same =
    elim (dec_lt i j) [
      | yes l ↦ absurd (omega (arith, rank_lt P i j l ei))
      | no m ↦ elim (dec_lt j i) [ yes l ↦ absurd (omega (arith, rank_lt P j i l ej)) | no o ↦ omega arith ]
    ]

-- a member of rank m
abbrev pub Ranked : (ℕ → Bool) → ℕ → ℕ → Type 0
Ranked P n m = (i : ℕ) × (i < n) × (P i ≡ true) × (number P i ≡ m)

pub ranked : (P : ℕ → Bool) (n m : ℕ) → m < number P n → Ranked P n m
ranked P zero m l = absurd (omega (arith, number-nil P))
ranked P (suc n) m l =
    ⊎_elim
    (λ e.
    elim (ℕ_discrete (number P n) m) [
      | yes f ↦ (n, omega arith, e, f)
      | no ne ↦ up (ranked P n m (omega (arith, number_in P n e)))
    ])
    (λ e. up (ranked P n m (omega (arith, number-out P n e)))) (true-or-false (P n))
  where
    up : Ranked P n m → Ranked P (suc n) m
    up (i, li, e, r) = (i, omega arith, e, r)

-- ---- no member, a member

pub number-zero : (P : ℕ → Bool) (n : ℕ) → number P n ≡ 0 → (i : ℕ) → i < n → P i ≡ false
number-zero P n z i l = not-true-false (P i) (λ e. omega (arith, rank_lt P i n l e))

pub number-pos : (P : ℕ → Bool) (n i : ℕ) → i < n → P i ≡ true → 0 < number P n
number-pos P n i l e = omega (arith, rank_lt P i n l e)

pub member : (P : ℕ → Bool) (n : ℕ) → 0 < number P n → (i : ℕ) × (i < n) × (P i ≡ true)
member P n l = let (i, m, e, r) = ranked P n 0 l in (i, m, e)

-- ---- one member less

pub number-remove : (P Q : ℕ → Bool) (n j : ℕ) → j < n → P j ≡ true → Q j ≡ false → ((i : ℕ) → i < n → i ≢ j → P i ≡ Q i)
    → number P n ≡ number Q n + 1
number-remove P Q zero j l p q h = absurd (omega arith)
number-remove P Q (suc n) j l p q h =
    elim (ℕ_discrete j n) [
      | yes e ↦
          let below : number P n ≡ number Q n = number-cong P Q n (λ i m. h i (omega arith) (omega arith)) in
          omega (arith, number_in P n (rw e at p), number-out Q n (rw e at q))
      | no ne ↦
          let below : number P n ≡ number Q n + 1 = number-remove P Q n j (omega arith) p q (λ i m d. h i (omega arith) d) in
          let last : P n ≡ Q n = h n (omega arith) (omega arith) in
          ⊎_elim (λ e. omega (arith, number_in P n e, number_in Q n (sym last ∙ e)))
          (λ e. omega (arith, number-out P n e, number-out Q n (sym last ∙ e))) (true-or-false (P n))
    ]

pub number-less : (P Q : ℕ → Bool) (n j : ℕ) → ((i : ℕ) → i < n → P i ≡ true → Q i ≡ true) → j < n → P j ≡ false → Q j ≡ true
    → number P n < number Q n
number-less P Q zero j h l p q = absurd (omega arith)
number-less P Q (suc n) j h l p q =
    elim (ℕ_discrete j n) [
      | yes e ↦
          let below : number P n ≤ number Q n = number-mono P Q n (λ i m. h i (omega arith)) in
          omega (arith, number-out P n (rw e at p), number_in Q n (rw e at q))
      | no ne ↦
          let below : number P n < number Q n = number-less P Q n j (λ i m. h i (omega arith)) (omega arith) p q in
          ⊎_elim (λ e. omega (arith, number_in P n e, number_in Q n (h n (omega arith) e)))
          (λ e. omega (arith, number-out P n e, number-inc Q n (suc n) (omega arith))) (true-or-false (P n))
    ]

-- a set inside another with as many members is the same set
pub number_same : (P Q : ℕ → Bool) (n : ℕ) → ((i : ℕ) → i < n → P i ≡ true → Q i ≡ true) → number P n ≡ number Q n
    → (i : ℕ) → i < n → P i ≡ Q i
number_same P Q n h same i l =
    ⊎_elim (λ e. e ∙ sym (h i l e))
    (λ e. e ∙ sym (not-true-false (Q i) (λ f. omega (arith, number-less P Q n i h l e f)))) (true-or-false (P i))

-- ---- one, two and three members

pub number-one : (P : ℕ → Bool) (n : ℕ) → number P n ≡ 1
    → (j : ℕ) × (j < n) × (P j ≡ true) × ((i : ℕ) → i < n → P i ≡ true → i ≡ j)
number-one P n one =
    let (j, l, e, r) = ranked P n 0 (omega arith) in
    (j, l, e, λ i m f. rank-injective P i j f e (omega (arith, rank_lt P i n m f)))

pub number-two : (P : ℕ → Bool) (n : ℕ) → number P n ≡ 2
    → (j : ℕ) × (k : ℕ) × (j < k) × (k < n) × (P j ≡ true) × (P k ≡ true) × ((i : ℕ) → i < n → P i ≡ true → (i ≡ j) ⊎ (i ≡ k))
number-two P n two =
    let (k, lk, ek, rk) = ranked P n 1 (omega arith) in
    let (j, lj, ej, rj) = ranked P k 0 (omega arith) in (
      j,
      k,
      lj,
      lk,
      ej,
      ek,
      λ i l e.
          elim (ℕ_discrete (number P i) 0) [
            | yes z ↦ inl (rank-injective P i j e ej (omega arith))
            | no nz ↦ inr (rank-injective P i k e ek (omega (arith, rank_lt P i n l e)))
          ],
    )

-- one or two members: the first and the last of them, which are all
pub number-few : (P : ℕ → Bool) (n : ℕ) → 1 ≤ number P n → number P n ≤ 2
    → (j : ℕ) × (k : ℕ) × (j ≤ k) × (k < n) × (P j ≡ true) × (P k ≡ true) × ((i : ℕ) → i < n → i ≢ j → i ≢ k → P i ≡ false)
number-few P n low high =
    let (j, lj, ej, rj) = ranked P n 0 (omega arith) in
    let (k, lk, ek, rk) = ranked P n (number P n - 1) (omega arith) in
    let order : j ≤ k = elim (dec_lt k j) [ yes l ↦ absurd (omega (arith, rank_lt P k j l ek)) | no m ↦ omega arith ] in (
      j,
      k,
      order,
      lk,
      ej,
      ek,
      λ i l nj nk.
          not-true-false (P i) (λ e.
          let a : number P i ≢ number P j = λ f. nj (rank-injective P i j e ej f) in
          let b : number P i ≢ number P k = λ f. nk (rank-injective P i k e ek f) in
          omega (arith, rank_lt P i n l e)),
    )

abbrev pub Three : (ℕ → Bool) → ℕ → Type 0
Three P n = (i : ℕ) × (j : ℕ) × (k : ℕ) × (i < j) × (j < k) × (k < n) × (P i ≡ true) × (P j ≡ true) × (P k ≡ true)

pub choose-three : (P : ℕ → Bool) (n : ℕ) → 3 ≤ number P n → Three P n
choose-three P n h =
    let (k, lk, ek, rk) = ranked P n 2 (omega arith) in
    let (j, lj, ej, rj) = ranked P k 1 (omega arith) in
    let (i, li, ei, ri) = ranked P j 0 (omega arith) in
    (i, j, k, li, lj, lk, ei, ej, ek)

-- three members leave one off any two places
pub member-off : (P : ℕ → Bool) (n p q : ℕ) → 3 ≤ number P n → (i : ℕ) × (i < n) × (i ≢ p) × (i ≢ q) × (P i ≡ true)
member-off P n p q h =
    let (i, j, k, ij, jk, l, ei, ej, ek) = choose-three P n h in
    elim (ℕ_discrete i p) [
      | yes a ↦
          elim (ℕ_discrete j q) [
            | yes b ↦ (k, l, omega arith, omega arith, ek)
            | no b ↦ (j, omega arith, omega arith, b, ej)
          ]
      | no a ↦
          elim (ℕ_discrete i q) [
            | yes b ↦
                elim (ℕ_discrete j p) [
                  | yes c ↦ (k, l, omega arith, omega arith, ek)
                  | no c ↦ (j, omega arith, c, omega arith, ej)
                ]
            | no b ↦ (i, omega arith, a, b, ei)
          ]
    ]

-- ---- a set of numbers in parts

pub number_append : (P : ℕ → Bool) (m n : ℕ) → number P (m + n) ≡ number P m + number (λ i. P (m + i)) n
number_append P m zero =
    let e : m + 0 ≡ m = omega arith in
    omega (arith, ap (number P) e, number-nil (λ i. P (m + i)))
number_append P m (suc n) =
    let e : m + suc n ≡ suc (m + n) = omega arith in
    let below : number P (m + n) ≡ number P m + number (λ i. P (m + i)) n = number_append P m n in
    ⊎_elim (λ f. omega (arith, ap (number P) e, number_in P (m + n) f, number_in (λ i. P (m + i)) n f))
    (λ f. omega (arith, ap (number P) e, number-out P (m + n) f, number-out (λ i. P (m + i)) n f)) (true-or-false (P (m + n)))

unfoldable pub total : (ℕ → ℕ) → ℕ → ℕ
total f zero = 0
total f (suc n) = total f n + f n

-- x places at a time
pub number-blocks : (P : ℕ → Bool) (x y : ℕ) → number P (x * y) ≡ total (λ q. number (λ i. P (i + x * q)) x) y
unfolding total
number-blocks P x zero =
    let e : x * 0 ≡ 0 = omega arith in
    ap (number P) e ∙ number-nil P
number-blocks P x (suc y) =
    let e : x * suc y ≡ x * y + x = omega arith in
    ap (number P) e
    ∙ number_append P (x * y) x
    ∙ ap₂ ◌+◌ (number-blocks P x y) (number-cong _ _ x (λ i l. let f : x * y + i ≡ i + x * y = omega arith in ap P f))

total-members : (f : ℕ → ℕ) (Q : ℕ → Bool) (y m : ℕ) → ((q : ℕ) → q < y → Q q ≡ true → m ≤ f q) → number Q y * m ≤ total f y
unfolding total
total-members f Q zero m h = omega (arith, ap (λ (a : ℕ). a * m) (number-nil Q))
total-members f Q (suc y) m h =
    let below : number Q y * m ≤ total f y = total-members f Q y m (λ q l. h q (omega arith)) in
    ⊎_elim (λ e. omega (arith, ap (λ (a : ℕ). a * m) (number_in Q y e), h y (omega arith) e))
    (λ e. omega (arith, ap (λ (a : ℕ). a * m) (number-out Q y e))) (true-or-false (Q y))

-- k terms of m or more
pub total-many : (f : ℕ → ℕ) (Q : ℕ → Bool) (y m k : ℕ) → k ≤ number Q y → ((q : ℕ) → q < y → Q q ≡ true → m ≤ f q) → k * m ≤ total f y
total-many f Q y m k l h = omega (arith, mul-le-mul_right m l, total-members f Q y m h)

-- k blocks of m members or more
pub number-many : (P Q : ℕ → Bool) (x y m k : ℕ) → k ≤ number Q y
    → ((q : ℕ) → q < y → Q q ≡ true → m ≤ number (λ i. P (i + x * q)) x) → k * m ≤ number P (x * y)
number-many P Q x y m k l h = rw (number-blocks P x y) (total-many _ Q y m k l h)
