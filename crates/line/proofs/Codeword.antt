-- Codewords are linear, so a sum of codewords with constant weights is one; and a codeword that is not all zero has three nonzero places.
use mathlib.Core.Path.{◌≡◌, sym, ap, ap₂, ◌∙◌}
use mathlib.Core.Logic.{◌≢◌, ◌⊎◌, inl, inr, ⊎_elim}
use Prim.Native.Nat.{ℕ, zero, suc, ◌≤◌, ◌<◌}
use native.Mathlib.Decide.{ℕ_discrete, dec_lt}
use native.Mathlib.Omega.{arith}
use Rattle.field.specs.Field.{add, mul, pow, Primitive}
use Rattle.field.proofs.Addition.{add_zero_l, add-self, add-lt, add-eq-zero}
use Rattle.field.proofs.Multiplication.{mul-zero-r, mul-add-l}
use Rattle.field.proofs.Power.{pow-lt, pow-different, mul-eq-zero}
use Rattle.line.specs.Line.{syndrome0, syndrome1, Codeword}
use Rattle.line.proofs.Syndrome.{syndrome0-cong, syndrome1-cong, syndrome0-zero, syndrome1-zero, syndrome0-add, syndrome1-add, syndrome0-scale, syndrome1-scale, single, single-at, single-off, syndrome0-single, syndrome1-single, syndrome0-change, syndrome1-change}

-- ---- linear

pub codeword-cong : (r : ℕ) (x y : ℕ → ℕ) (n : ℕ) → ((i : ℕ) → i < n → x i ≡ y i) → Codeword r x n → Codeword r y n
codeword-cong r x y n h w =
    record { first = sym (syndrome0-cong x y n h) ∙ w.first; second = sym (syndrome1-cong r x y n h) ∙ w.second }

pub codeword-zero : (r n : ℕ) → Codeword r (λ i. 0) n
codeword-zero r n = record { first = syndrome0-zero n; second = syndrome1-zero r n }

pub codeword-add : (r : ℕ) (x y : ℕ → ℕ) (n : ℕ) → Codeword r x n → Codeword r y n → Codeword r (λ i. add (x i) (y i)) n
codeword-add r x y n v w =
    record {
      first = syndrome0-add x y n ∙ ap₂ add v.first w.first ∙ add-self 0;
      second = syndrome1-add r x y n ∙ ap₂ add v.second w.second ∙ add-self 0;
    }

pub codeword-scale : (r k : ℕ) (x : ℕ → ℕ) (n : ℕ) → r < 256 → Codeword r x n → Codeword r (λ i. mul r k (x i)) n
codeword-scale r k x n fits w =
    record {
      first = syndrome0-scale r k x n ∙ ap (mul r k) w.first ∙ mul-zero-r r k;
      second = syndrome1-scale r k x n fits ∙ ap (mul r k) w.second ∙ mul-zero-r r k;
    }

-- the syndromes of codewords, place by place
pub codeword-sum0 : (r : ℕ) (x : ℕ → ℕ → ℕ) (n m : ℕ) → ((i : ℕ) → i < n → Codeword r (x i) m) → Codeword r (λ t. syndrome0 (λ i. x i t) n) m
unfolding syndrome0
codeword-sum0 r x zero m h = codeword-zero r m
codeword-sum0 r x (suc n) m h =
    codeword-add r (x n) (λ t. syndrome0 (λ i. x i t) n) m (h n (omega arith)) (codeword-sum0 r x n m (λ i l. h i (omega arith)))

pub codeword-sum1 : (r : ℕ) (x : ℕ → ℕ → ℕ) (n m : ℕ) → r < 256 → ((i : ℕ) → i < n → Codeword r (x i) m)
    → Codeword r (λ t. syndrome1 r (λ i. x i t) n) m
unfolding syndrome1
codeword-sum1 r x zero m fits h = codeword-zero r m
codeword-sum1 r x (suc n) m fits h =
    codeword-add r (λ t. mul r (pow r n) (x n t)) (λ t. syndrome1 r (λ i. x i t) n) m (codeword-scale r (pow r n) (x n) m fits (h n (omega arith)))
    (codeword-sum1 r x n m fits (λ i l. h i (omega arith)))

-- ---- the weight: one nonzero place is the first syndrome; two are 00h because the array [1, 1; α^j, α^k] has a nonzero determinant

weight-one : (r : ℕ) (c : ℕ → ℕ) (n j : ℕ) → Codeword r c n → j < n → ((i : ℕ) → i < n → i ≢ j → c i ≡ 0) → c j ≡ 0
weight-one r c n j w l h =
    sym (ap₂ add (syndrome0-zero n) (add_zero_l (c j)) ∙ add_zero_l (c j))
    ∙ sym (syndrome0-change (λ i. 0) c n j h l)
    ∙ w.first

weight-two : (r : ℕ) (c : ℕ → ℕ) (n j k : ℕ) → Primitive r → n ≤ 255 → c j < 256 → Codeword r c n → j < n → k < n → j ≢ k
    → ((i : ℕ) → i < n → i ≢ j → i ≢ k → c i ≡ 0) → c j ≡ 0
weight-two r c n j k p few byte w lj lk ne h =
    mul-eq-zero r (add (pow r k) (pow r j)) (c j) p (add-lt _ _ (pow-lt r k p.fits) (pow-lt r j p.fits)) byte
    (mul-add-l r (pow r k) (pow r j) (c j) ∙ ap (λ (v : ℕ). add (mul r (pow r k) v) (mul r (pow r j) (c j))) (sym same) ∙ second)
    (pow-different r k j p (omega arith) (omega arith) (λ e. ne (sym e)))
  where
    z : ℕ → ℕ
    z = single k (c k)

    off : (i : ℕ) → i < n → i ≢ j → c i ≡ z i
    off i l m =
        elim (ℕ_discrete i k) [ yes e ↦ rw e (sym (single-at k (c k))) | no d ↦ h i l m d ∙ sym (single-off k (c k) i d) ]

    at_j : add (z j) (c j) ≡ c j
    at_j = ap (λ (v : ℕ). add v (c j)) (single-off k (c k) j ne) ∙ add_zero_l (c j)

    same : c k ≡ c j
    same =
        add-eq-zero (c k) (c j)
        (sym (ap₂ add (syndrome0-single k (c k) n lk) at_j) ∙ sym (syndrome0-change z c n j off lj) ∙ w.first)

    second : add (mul r (pow r k) (c k)) (mul r (pow r j) (c j)) ≡ 0
    second =
        sym (ap₂ add (syndrome1-single r k (c k) n lk) (ap (mul r (pow r j)) at_j))
        ∙ sym (syndrome1-change r z c n j off lj)
        ∙ w.second

weight-at : (r : ℕ) (c : ℕ → ℕ) (n j k : ℕ) → Primitive r → n ≤ 255 → c j < 256 → Codeword r c n → j < n
    → ((i : ℕ) → i < n → i ≢ j → i ≢ k → c i ≡ 0) → c j ≡ 0
weight-at r c n j k p few byte w l h =
    elim (ℕ_discrete j k) [
      | yes e ↦ weight-one r c n j w l (λ i m d. h i m d (λ f. d (f ∙ sym e)))
      | no ne ↦
          elim (dec_lt k n) [
            | yes m ↦ weight-two r c n j k p few byte w l m ne h
            | no m ↦ weight-one r c n j w l (λ i q d. h i q d (omega arith))
          ]
    ]

-- a codeword that is zero at all places but two is zero
pub weight : (r : ℕ) (c : ℕ → ℕ) (n j k : ℕ) → Primitive r → n ≤ 255 → ((i : ℕ) → i < n → c i < 256) → Codeword r c n
    → ((i : ℕ) → i < n → i ≢ j → i ≢ k → c i ≡ 0) → (i : ℕ) → i < n → c i ≡ 0
weight r c n j k p few bytes w h i l =
    elim (ℕ_discrete i j) [
      | yes e ↦ weight-at r c n i k p few (bytes i l) w l (λ q m d f. h q m (λ g. d (g ∙ sym e)) f)
      | no ne ↦
          elim (ℕ_discrete i k) [
            | yes e ↦ weight-at r c n i j p few (bytes i l) w l (λ q m d f. h q m f (λ g. d (g ∙ sym e)))
            | no nk ↦ h i l ne nk
          ]
    ]

-- two codewords that agree at all places but two agree
pub codeword-unique : (r : ℕ) (x y : ℕ → ℕ) (n j k : ℕ) → Primitive r → n ≤ 255 → ((i : ℕ) → i < n → x i < 256) → ((i : ℕ) → i < n → y i < 256)
    → Codeword r x n → Codeword r y n → ((i : ℕ) → i < n → i ≢ j → i ≢ k → x i ≡ y i) → (i : ℕ) → i < n → x i ≡ y i
codeword-unique r x y n j k p few bx by v w h i l =
    add-eq-zero (x i) (y i)
    (weight r (λ q. add (x q) (y q)) n j k p few (λ q m. add-lt (x q) (y q) (bx q m) (by q m)) (codeword-add r x y n v w)
    (λ q m d f. ap (λ (a : ℕ). add a (y q)) (h q m d f) ∙ add-self (y q)) i l)

-- a nonzero place of c other than j and k
abbrev pub Other : (ℕ → ℕ) → ℕ → ℕ → ℕ → Type 0
Other c n j k = (i : ℕ) × (i < n) × (i ≢ j) × (i ≢ k) × (c i ≢ 0)

zero_more : (c : ℕ → ℕ) (n j k : ℕ) → ((i : ℕ) → i < n → i ≢ j → i ≢ k → c i ≡ 0) → (n ≢ j → n ≢ k → c n ≡ 0)
    → (i : ℕ) → i < suc n → i ≢ j → i ≢ k → c i ≡ 0
zero_more c n j k h last i l d f =
    elim (ℕ_discrete i n) [ yes e ↦ ap c e ∙ last (λ g. d (e ∙ g)) (λ g. f (e ∙ g)) | no ne ↦ h i (omega arith) d f ]

other-or-zero : (c : ℕ → ℕ) (n j k : ℕ) → Other c n j k ⊎ ((i : ℕ) → i < n → i ≢ j → i ≢ k → c i ≡ 0)
other-or-zero c zero j k = inr (λ i l d f. absurd (omega arith))
other-or-zero c (suc n) j k =
    ⊎_elim (λ o. inl (o.0, omega arith, o.2, o.3, o.4))
    (λ h.
    elim (ℕ_discrete (c n) 0) [
      | yes z ↦ inr (zero_more c n j k h (λ d f. z))
      | no nz ↦
          elim (ℕ_discrete n j) [
            | yes e ↦ inr (zero_more c n j k h (λ d f. absurd (d e)))
            | no d ↦
                elim (ℕ_discrete n k) [
                  | yes e ↦ inr (zero_more c n j k h (λ _ f. absurd (f e)))
                  | no f ↦ inl (n, omega arith, d, f, nz)
                ]
          ]
    ])
    (other-or-zero c n j k)

-- a codeword that is not zero has a nonzero place other than any two: three at least
pub weight-other : (r : ℕ) (c : ℕ → ℕ) (n j k : ℕ) → Primitive r → n ≤ 255 → ((i : ℕ) → i < n → c i < 256) → Codeword r c n
    → (i : ℕ) → i < n → c i ≢ 0 → Other c n j k
weight-other r c n j k p few bytes w i l ne =
    ⊎_elim (λ o. o) (λ h. absurd (ne (weight r c n j k p few bytes w h i l))) (other-or-zero c n j k)

pub weight-three : (r : ℕ) (c : ℕ → ℕ) (n : ℕ) → Primitive r → n ≤ 255 → ((i : ℕ) → i < n → c i < 256) → Codeword r c n
    → (i : ℕ) → i < n → c i ≢ 0
    → (j : ℕ) × (k : ℕ) × (j < n) × (k < n) × (j ≢ i) × (k ≢ i) × (k ≢ j) × (c j ≢ 0) × (c k ≢ 0)
weight-three r c n p few bytes w i l ne =
    let (j, lj, ji, ji', nj) = weight-other r c n i i p few bytes w i l ne in
    let (k, lk, ki, kj, nk) = weight-other r c n i j p few bytes w i l ne in
    (j, k, lj, lk, ji, ki, kj, nj, nk)
